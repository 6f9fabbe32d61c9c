-- `compiler::put_if` meets its contract, by the bit. Assumes nothing.
use Rattle.compiler.specs.Emitting.{if_none, if_space, if_emitted}
use Rattle.compiler.proofs.parts.put_if.Goals as goal

pub returns-then-b-eq0 : goal.returns-then-b-eq0
returns-then-b-eq0 c = if_none _ _ c.if-b-eq0.true c.requires

pub put-requires : goal.put-requires
put-requires c = if_space _ _ c.if-b-eq0.false c.requires

pub returns : goal.returns
returns c =
    if_emitted _ _ c.if-b-eq0.false c.put.ensures
