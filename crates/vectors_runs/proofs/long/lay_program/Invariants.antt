-- What is laid lies within the program.
use Prim.Native.Nat.{◌≤◌}
use lib.ListN.{length}
use Rattle.vectors_runs.proofs.long.lay_program.Given as goal

abbrev pub invariant-loop : goal.invariant-loop
invariant-loop l = l.at ≤ length l.program
