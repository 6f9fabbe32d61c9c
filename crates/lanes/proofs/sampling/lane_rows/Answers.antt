-- `lanes::lane_rows` meets its contract: the rows of the lanes, transposed. Assumes nothing.
use native.Mathlib.Omega.{arith}
use Rattle.programs.specs.Width.{few_bits}
use Rattle.programs.specs.Reading.{suited_means}
use Rattle.lanes.specs.Samples.{given-lanes, lanes_read}
use Rattle.lanes.proofs.sampling.lane_rows.Goals as goal

pub returns : goal.returns
returns c =
    let m = suited_means _ _ c.requires.0 in
    lanes_read _ _ _ _ _ _ (omega (arith, m.2, few_bits _ m.1))
    (given-lanes _ _ m.0 _ _ c.output.ensures c.below.ensures) c.spread.ensures
    c.transpose.ensures
