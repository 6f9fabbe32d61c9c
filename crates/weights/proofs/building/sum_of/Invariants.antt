-- `weights::sum_of` meets its contract: the sum so far is that of the weights passed. Assumes nothing.
use mathlib.Core.Path.{◌≡◌}
use Prim.Native.Nat.{◌-◌, ◌*◌, ◌^◌, ◌≤◌}
use lib.ListN.{get_or}
use Rattle.laws.specs.Sums.{sum_to}
use Rattle.weights.specs.Weights.{counted}
use Rattle.weights.proofs.building.sum_of.Given as goal

abbrev pub invariant-loop-v : goal.invariant-loop-v
invariant-loop-v l =
    (l.s ≡ sum_to l.v (λ v'. counted l.usage v' (get_or l.weights v' 0))) × (l.s ≤ l.v * (2 ^ 33 - 1))
