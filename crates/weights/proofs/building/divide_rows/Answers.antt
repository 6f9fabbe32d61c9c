-- `weights::divide_rows` meets its contract: v rows are laid. Assumes nothing.
use borrow.Author.Rules.{rules}
use native.Mathlib.Omega.{arith}
use mathlib.Core.Path.{ap}
use Prim.Native.Nat.{ℕ, ◌+◌, ◌*◌, ◌≤◌}
use lib.ListN.{length, length-take, length-drop}
use Rattle.laws.specs.Lay.{blocks-none, laid_part}
use Rattle.fields.specs.Fields.{length-packed, width}
use Rattle.files.specs.Sizes.{row_place}
use Rattle.weights.specs.Building.{counted-le}
use Rattle.weights.proofs.building.divide_rows.Goals as goal
use Rattle.weights.proofs.building.divide_rows.Goals.{In-loop-v}

pub loop-v-init : goal.loop-v-init
loop-v-init c = (search rules, blocks-none _ _ _)

-- the room of the row
room : (c : In-loop-v) → 8 + c.loop-v.v * c.width-bytes.result + width c.args.n ≤ length c.args.file.now
room c = row_place _ c.loop-v-test.true c.loop-v.invariant.0 c.requires.2

pub divide_row-requires : goal.divide_row-requires
divide_row-requires c = (
  rw (c.counted_weight.ensures, c.requires.0) (counted-le _ _ 0 _ c.loop-v-test.true),
  search rules,
  simp (length-take, length-drop) (omega (arith, room (goal.at.divide_row-requires c).In-loop-v, c.loop-v.invariant.0)),
)

pub loop-v-preserved : goal.loop-v-preserved
loop-v-preserved c =
    let at = c.loop-v in (
      search rules,
      laid_part _ _ _ _ _ _ _ _ _ (λ v. length-packed _ _) (ap (λ (w : ℕ). 8 + at.v * w) at.invariant.0)
          (room (goal.at.loop-v-preserved c).In-loop-v) (omega (arith, at.invariant.0))
          (rw c.counted_weight.ensures at c.divide_row.ensures) at.invariant.1,
    )
