-- `compiler::begin` meets its contract: two instructions, then one for each V passed. Assumes nothing.
use borrow.Author.Rules.{rules}
use Rattle.compiler.specs.Emitting.{emitted_after, parts_none, parts-space, parts_more, parts-done}
use Rattle.compiler.proofs.parts.begin.Goals as goal

pub loop-t-init : goal.loop-t-init
loop-t-init c = parts_none (search rules)

pub put-to-requires-in-loop-t : goal.put-to-requires-in-loop-t
put-to-requires-in-loop-t c =
    record { fits = (parts-space c.loop-t.invariant c.loop-t-test.true).fits }

pub loop-t-preserved : goal.loop-t-preserved
loop-t-preserved c =
    parts_more c.loop-t.invariant c.loop-t-test.true (rw c.reg_v.ensures at c.put-to-in-loop-t.ensures)

pub returns : goal.returns
returns c =
    emitted_after (emitted_after (rw c.reg_x.ensures at c.put-to.ensures) c.put-to-2.ensures)
    (parts-done c.loop-t.invariant c.loop-t-test.false)
