-- `lanes::read` meets its contract: the checks, then j samples are laid. Assumes nothing.
use Rattle.laws.specs.Words.{bit_at}
use Rattle.laws.specs.Lists.{upto}
use Rattle.laws.specs.Lay.{Laid}
use Rattle.lanes.specs.Samples.{sample_of}
use Rattle.lanes.proofs.sampling.read.Given as goal

abbrev pub invariant-loop-j : goal.invariant-loop-j
invariant-loop-j g l =
    Laid 0 (upto l.j (λ j'. g.S.Sample.code (bit_at l.sign j') (sample_of l.rows l.outputs j'))) l.initial.samples l.samples
