-- `lanes::below` meets its contract: t bits of each lane are compared. Assumes nothing.
use native.Mathlib.Omega.{arith}
use Prim.Native.Nat.{◌+◌}
use lib.ListN.{length}
use Rattle.laws.specs.Words.{bit_at_read}
use Rattle.programs.specs.Width.{few_bits}
use Rattle.programs.specs.Reading.{suited_means}
use Rattle.lanes.specs.Samples.{others-long, others_are, compared_none, compared_more, compared_done}
use Rattle.lanes.proofs.sampling.below.Goals as goal

pub overflow_shr-last : goal.overflow_shr-last
overflow_shr-last c =
    let m = suited_means c.args.rows (length c.args.outputs.now) c.requires in
    omega (arith, c.loop-t-test.true, others-long c.args.outputs.now, m.2, few_bits c.args.rows m.1)

pub loop-t-init : goal.loop-t-init
loop-t-init c = compared_none _ _

pub loop-t-preserved : goal.loop-t-preserved
loop-t-preserved c =
    let is = others_are c.args.outputs.now c.loop-t.t in
    let fits = c.type_inv.outputs (c.loop-t.t + 1) in
    compared_more _ _ _ _ _ is (rw is fits.fits) c.loop-t.invariant _ _ (bit_at_read _ _) c.compare-fits.ensures

pub returns : goal.returns
returns c =
    let long = others-long c.args.outputs.now in
    compared_done _ _ _ _ c.requires (omega (arith, c.loop-t.auto.t-end, long)) (omega (arith, c.loop-t-test.false, long))
    c.loop-t.invariant
