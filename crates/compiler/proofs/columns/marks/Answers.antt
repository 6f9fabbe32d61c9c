-- `compiler::marks` meets its contract: the marks of the rows below are still ahead, with j set rows met. Assumes nothing.
use borrow.Author.Rules.{rules}
use Rattle.std.proofs.Common.{arith}
use Rattle.compiler.specs.EmittingColumns.{rows_none, row-space, row_more, rows-done}
use Rattle.compiler.proofs.columns.marks.Goals as goal

pub loop-v-init : goal.loop-v-init
loop-v-init c = rows_none c.requires.0

pub mark_if-to-requires : goal.mark_if-to-requires
mark_if-to-requires c =
    let space = row-space c.loop-v.invariant (omega arith) c.bit-b.ensures.0 c.bit-b.ensures.1 in
    (space, search rules, search rules)

pub loop-v-preserved : goal.loop-v-preserved
loop-v-preserved c =
    row_more c.loop-v.invariant (omega arith) c.bit-b.ensures.0 c.bit-b.ensures.1 (omega arith) c.mark_if-to.ensures

pub returns : goal.returns
returns c = rows-done c.loop-v.invariant c.loop-v-test.false
