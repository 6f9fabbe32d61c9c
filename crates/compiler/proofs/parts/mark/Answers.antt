-- `compiler::mark` meets its contract: one instruction, then one for each set bit passed. Assumes nothing.
use borrow.Author.Rules.{rules}
use Rattle.laws.specs.Digits.{and_one}
use Rattle.compiler.specs.Emitting.{emitted_after, parts_none, parts-space, parts_more, parts-done}
use Rattle.compiler.proofs.parts.mark.Goals as goal

pub loop-t-init : goal.loop-t-init
loop-t-init c = (search rules, parts_none (search rules))

pub put_if-to-requires : goal.put_if-to-requires
put_if-to-requires c =
    let inv = c.loop-t.invariant in
    rw (and_one, c.reg_v-bit.ensures, inv.0) (parts-space inv.1 c.loop-t-test.true)

pub loop-t-preserved : goal.loop-t-preserved
loop-t-preserved c =
    let inv = c.loop-t.invariant in
    let next = rw (and_one, c.reg_v-bit.ensures, inv.0) at c.put_if-to.ensures in
    (inv.0, parts_more inv.1 c.loop-t-test.true next)

pub returns : goal.returns
returns c =
    emitted_after (rw c.reg_y-y.ensures at c.put-to.ensures)
    (parts-done c.loop-t.invariant.1 c.loop-t-test.false)
