-- `compiler::count_marks` meets its contract: the counts so far are those of the rows passed. Assumes nothing.
use borrow.Author.Rules.{rules}
use native.Mathlib.Omega.{arith}
use Rattle.compiler.specs.EmittingColumns.{marked_none, marked_more}
use Rattle.compiler.proofs.sizes.count_marks.Goals as goal

pub loop-v-init : goal.loop-v-init
loop-v-init c = (search rules, marked_none _)

pub loop-v-preserved : goal.loop-v-preserved
loop-v-preserved c = (search rules, marked_more c.bit-b.ensures.0 c.bit-b.ensures.1 (omega arith) c.loop-v.invariant.1)
