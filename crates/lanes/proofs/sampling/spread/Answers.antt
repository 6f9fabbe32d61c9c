-- `lanes::spread` meets its contract: t rows are set. Assumes nothing.
use native.Mathlib.Omega.{arith}
use Rattle.std.specs.Prelude.{drop}
use Rattle.std.proofs.Common.{take-append-drop, length-take}
use Rattle.std.proofs.lemmas.List.{set-append_left}
use Rattle.lanes.specs.Samples.{cells-none, cells_more, cells-done}
use Rattle.lanes.proofs.sampling.spread.Goals as goal

pub loop-t-init : goal.loop-t-init
loop-t-init c = rw (take-append-drop 15 c.args.table.now) (cells-none _ _ _ c.requires.0 c.requires.1)

pub loop-t-preserved : goal.loop-t-preserved
loop-t-preserved c =
    let at = c.loop-t in
    let table = c.args.table.now in
    rw (← set-append_left at.row-items (drop 15 table) at.t _ (omega (arith, at.auto.row-items, c.loop-t-test.true)))
    (cells_more _ _ c.ranges.hits.fits _ _ _ (omega (arith, length-take 15 table, c.loop-t-test.true)) c.output.ensures
    c.output.type_inv at.invariant)

pub returns : goal.returns
returns c =
    let long = length-take 15 c.args.table.now in
    cells-done _ _ c.ranges.hits.fits _ _ _ (omega (arith, long, c.loop-t.auto.t-end))
    (omega (arith, long, c.told-table, c.loop-t-test.false))
    c.loop-t.invariant
