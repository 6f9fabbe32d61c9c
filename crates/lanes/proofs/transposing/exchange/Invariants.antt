-- `lanes::exchange` meets its contract: the blocks below row k are exchanged. Assumes nothing.
use mathlib.Core.Path.{◌≡◌}
use Prim.Native.Nat.{◌-◌, ◌*◌, ◌%◌, ◌≤◌}
use Rattle.lanes.specs.Transposing.{Exchanged, side}
use Rattle.lanes.proofs.transposing.exchange.Given as goal

abbrev pub invariant-loop-k : goal.invariant-loop-k
invariant-loop-k l = (l.k ≤ side) × (l.k % (2 * l.d) ≡ 0) × Exchanged l.d l.k l.initial.rows l.rows

abbrev pub decreases-loop-k : goal.decreases-loop-k
decreases-loop-k l = side - l.k
