-- `compiler::mark_if` meets its contract, by the bit. Assumes nothing.
use borrow.Author.Rules.{rules}
use Rattle.compiler.specs.Emitting.{if_none, if_space, if_emitted}
use Rattle.compiler.proofs.columns.mark_if.Goals as goal

pub returns-then-b-eq0 : goal.returns-then-b-eq0
returns-then-b-eq0 c = if_none _ _ c.if-b-eq0.true c.requires.0

pub mark-requires : goal.mark-requires
mark-requires c = (if_space _ _ c.if-b-eq0.false c.requires.0, search rules, search rules)

pub returns : goal.returns
returns c =
    if_emitted _ _ c.if-b-eq0.false c.mark.ensures
