-- `weights::sum_of` meets its contract: the sum so far is that of the weights passed. Assumes nothing.
use borrow.Author.Rules.{rules}
use native.Mathlib.Omega.{arith}
use Prim.Native.Nat.{◌^◌, ◌<◌}
use Rattle.laws.specs.Sums.{sum_to, sum_turn, sum_done}
use Rattle.weights.specs.Weights.{sum}
use Rattle.weights.specs.Uses.{counted-small}
use Rattle.weights.proofs.building.sum_of.Goals as goal
use Rattle.weights.proofs.building.sum_of.Goals.{After-counted_weight-s}

pub loop-v-init : goal.loop-v-init
unfolding sum_to
loop-v-init c = search rules

-- a weight as it counts has at most 33 bits
small : (c : After-counted_weight-s) → c.counted_weight-s.result < 2 ^ 33
small c =
    counted-small _ _ _ _ c.counted_weight-s.ensures (c.type_inv.weights c.loop-v.v).fits

pub overflow_add-s : goal.overflow_add-s
overflow_add-s c = record { fits = omega (arith, small (goal.at.overflow_add-s c).After-counted_weight-s) }

pub loop-v-preserved : goal.loop-v-preserved
loop-v-preserved c = (
  sum_turn _ _ _ _ c.counted_weight-s.ensures c.loop-v.invariant.0,
  omega (arith, small (goal.at.loop-v-preserved c).After-counted_weight-s),
)

pub returns : goal.returns
unfolding sum
returns c = (sum_done _ _ _ _ (omega arith) c.loop-v-test.false c.loop-v.invariant.0, search rules)
