-- `combining::fill` meets its contract: before lane j, j results are laid. Assumes nothing.
use borrow.Author.Rules.{rules}
use native.Mathlib.Omega.{arith}
use mathlib.Core.Path.{◌∙◌}
use Rattle.laws.specs.Lay.{lay-is, upto-none, laid_store, upto_done}
use Rattle.combining.specs.Arithmetic.{entry-small, lane_result}
use Rattle.combining.proofs.Four.fill.Goals as goal

pub loop-lane-init : goal.loop-lane-init
loop-lane-init c = upto-none _ _ _

pub result-requires : goal.result-requires
result-requires c =
    let s = c.requires.samples in
    let h = c.loop-lane-test.true in (
      search rules,
      search rules,
      entry-small _ _ s.0 h,
      entry-small _ _ s.1 h,
      entry-small _ _ s.2 h,
      entry-small _ _ s.3 h,
    )

pub loop-lane-preserved : goal.loop-lane-preserved
loop-lane-preserved c =
    let s = c.requires.samples in
    let is = lane_result _ _ _ _ _ _ _ _ s.0 s.1 s.2 s.3 c.loop-lane-test.true (record { sfits = c.result.type_inv })
    c.result.ensures in
    laid_store _ _ _ _ _ _ _ (omega arith) (search rules) is c.loop-lane.invariant

pub returns : goal.returns
returns c =
    let at = c.loop-lane in
    upto_done _ _ _ _ _ _ (search rules) c.loop-lane-test.false at.invariant ∙ lay-is _ _
