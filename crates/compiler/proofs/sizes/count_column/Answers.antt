-- `compiler::count_column` meets its contract: the marks are counted, and the live count follows. Assumes nothing.
use Rattle.std.proofs.Common.{arith}
use Rattle.files.specs.Matrix.{ones_in}
use Rattle.compiler.specs.EmittingColumns.{column-passed}
use Rattle.compiler.proofs.sizes.count_column.Goals as goal

pub overflow_sub-h : goal.overflow_sub-h
unfolding ones_in
overflow_sub-h c = omega (arith, c.requires.3, c.count_marks-marks.ensures.set)

pub returns : goal.returns
returns c = column-passed c.requires.2 c.count_marks-marks.ensures c.lesser-live.ensures
