-- The signers before the next one are added up.
use Rattle.pool.specs.Scanning.{Going}
use Rattle.pool.proofs.signers.scan.Given as goal

abbrev pub invariant-loop-s : goal.invariant-loop-s
invariant-loop-s l = Going l.signers l.s-index l.sums
