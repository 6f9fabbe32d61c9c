-- `lanes::below` meets its contract: t bits of each lane are compared. Assumes nothing.
use Rattle.lanes.specs.Samples.{Compared}
use Rattle.lanes.proofs.sampling.below.Given as goal

abbrev pub invariant-loop-t : goal.invariant-loop-t
invariant-loop-t l = Compared l.outputs l.last l.t l.fits
