-- `lister::list` meets its contract: after each line the place is at most 10 bytes on. Assumes nothing.
use Prim.Native.Nat.{◌+◌, ◌-◌, ◌*◌, ◌≤◌}
use Rattle.programs.specs.Header.{header_length}
use Rattle.lister.proofs.list.Given as goal

abbrev pub invariant-loop-position : goal.invariant-loop-position
invariant-loop-position g l = (l.position-counter ≤ l.count) × (l.at ≤ header_length + 10 * l.position-counter)

abbrev pub decreases-loop-position : goal.decreases-loop-position
decreases-loop-position g l = l.count - l.position-counter
