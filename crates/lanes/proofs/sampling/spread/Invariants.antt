-- `lanes::spread` meets its contract: t rows are set. Assumes nothing.
use mathlib.Core.List.{◌++◌}
use Rattle.std.specs.Prelude.{drop}
use Rattle.lanes.specs.Samples.{Cells}
use Rattle.lanes.proofs.sampling.spread.Given as goal

abbrev pub invariant-loop-t : goal.invariant-loop-t
invariant-loop-t l = Cells l.outputs l.hits l.t (l.row-items ++ drop 15 l.fn.table)
