-- `compiler::split` meets its contract: two instructions, then two for each distance passed. Assumes nothing.
use borrow.Author.Rules.{rules}
use Rattle.compiler.specs.Emitting.{emitted_after, parts_none, parts-space, parts_more, parts-done}
use Rattle.compiler.proofs.parts.split.Goals as goal

pub loop-i-init : goal.loop-i-init
loop-i-init c = parts_none (search rules)

pub apart-to-requires : goal.apart-to-requires
apart-to-requires c = (parts-space c.loop-i.invariant c.loop-i-test.true, search rules, search rules)

pub loop-i-preserved : goal.loop-i-preserved
loop-i-preserved c =
    parts_more c.loop-i.invariant c.loop-i-test.true c.apart-to.ensures

pub returns : goal.returns
returns c =
    emitted_after (emitted_after c.put-to.ensures c.put-to-2.ensures) (parts-done c.loop-i.invariant c.loop-i-test.false)
