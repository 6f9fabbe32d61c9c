-- `lanes::exchange_block` meets its contract: rows k to i - 1 are exchanged. Assumes nothing.
use Prim.Native.Nat.{◌+◌, ◌-◌, ◌≤◌}
use Rattle.lanes.specs.Transposing.{Crossed}
use Rattle.lanes.proofs.transposing.exchange_block.Given as goal

abbrev pub invariant-loop-i : goal.invariant-loop-i
invariant-loop-i l = (l.k ≤ l.i) × (l.i ≤ l.k + l.n) × Crossed l.d l.mask l.k l.i l.initial.rows l.rows

abbrev pub decreases-loop-i : goal.decreases-loop-i
decreases-loop-i l = l.k + l.n - l.i
