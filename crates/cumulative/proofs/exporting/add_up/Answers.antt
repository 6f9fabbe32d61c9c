-- `cumulative::add_up` meets its contract: v sums are laid, and the sum is that of v rows. Assumes nothing.
use borrow.Author.Rules.{rules}
use native.Mathlib.Omega.{arith}
use mathlib.Core.Path.{◌≡◌, refl}
use Prim.Native.Nat.{◌+◌}
use lib.ListN.{length}
use Rattle.laws.specs.Sums.{sum_to, sum_turn, sum-front-le}
use Rattle.laws.specs.Lay.{upto-none, laid_store, upto_filled}
use Rattle.cumulative.specs.Exporting.{row_at, row-at}
use Rattle.cumulative.proofs.exporting.add_up.Goals as goal
use Rattle.cumulative.proofs.exporting.add_up.Goals.{After-number_at-sum}

pub loop-v-init : goal.loop-v-init
unfolding sum_to
loop-v-init c = (refl, upto-none _ _ _)

-- the row that is read, and the sum with it
turned : (c : After-number_at-sum) →
    c.loop-v.sum + c.number_at-sum.result ≡ sum_to (c.loop-v.v + 1) (row_at c.args.bytes.now c.args.n)
turned c = sum_turn _ _ _ _ (row-at _ _ _ _ _ c.width-w.ensures c.number_at-sum.ensures) c.loop-v.invariant.0

pub overflow_add-sum : goal.overflow_add-sum
overflow_add-sum c =
    let part = sum-front-le (c.loop-v.v + 1) (length c.args.sums.now) (row_at c.args.bytes.now c.args.n)
    (omega (arith, c.loop-v-test.true)) in
    record { fits = omega (arith, turned (goal.at.overflow_add-sum c).After-number_at-sum, part, c.requires.2) }

pub loop-v-preserved : goal.loop-v-preserved
loop-v-preserved c =
    let turn = turned (goal.at.loop-v-preserved c).After-number_at-sum in
    (turn, laid_store 0 _ _ _ _ _ _ (omega arith) (search rules) turn c.loop-v.invariant.1)

pub returns : goal.returns
returns c = upto_filled _ _ _ _ (search rules) c.loop-v-test.false c.loop-v.invariant.1
