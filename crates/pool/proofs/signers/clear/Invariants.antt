-- The signers before the next one are cleared, and the others are as they were.
use Rattle.pool.specs.Scanning.{Clearing}
use Rattle.pool.proofs.signers.clear.Given as goal

abbrev pub invariant-loop-s : goal.invariant-loop-s
invariant-loop-s l = Clearing l.fn.signers l.s-index l.signers
