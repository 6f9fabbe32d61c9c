-- `cumulative::number_at` meets its contract: the number so far is that of the bits passed. Assumes nothing.
use Prim.Native.Nat.{◌-◌, ◌≤◌}
use Rattle.laws.specs.Digits.{Spelt}
use Rattle.fields.specs.Fields.{bit_of}
use Rattle.cumulative.proofs.exporting.number_at.Given as goal

abbrev pub invariant-loop-c : goal.invariant-loop-c
invariant-loop-c l = (l.c ≤ l.n) × Spelt (bit_of l.bytes l.at) 0 l.c l.x

abbrev pub decreases-loop-c : goal.decreases-loop-c
decreases-loop-c l = l.n - l.c
