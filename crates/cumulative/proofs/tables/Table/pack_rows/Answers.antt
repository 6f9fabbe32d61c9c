-- `cumulative::Table::pack_rows` meets its contract: v rows are laid. Assumes nothing.
use borrow.Author.Rules.{rules}
use native.Mathlib.Omega.{arith}
use mathlib.Core.Path.{ap}
use Prim.Native.Nat.{ℕ, ◌+◌, ◌*◌, ◌≤◌}
use lib.ListN.{length, length-take, length-drop}
use Rattle.laws.specs.Lay.{blocks-none, laid_part}
use Rattle.fields.specs.Fields.{length-packed, width}
use Rattle.files.specs.Sizes.{row_place}
use Rattle.cumulative.specs.Tables.{difference}
use Rattle.cumulative.proofs.tables.Table.pack_rows.Goals as goal
use Rattle.cumulative.proofs.tables.Table.pack_rows.Goals.{In-loop-v}

pub loop-v-init : goal.loop-v-init
loop-v-init c = (search rules, blocks-none _ _ _)

-- the room of the row
room : (c : In-loop-v) → 8 + c.loop-v.v * c.width-w.result + width c.args.self.columns ≤ length c.args.file.now
room c = row_place _ c.loop-v-test.true c.loop-v.invariant.0 (rw c.rows-v-end.ensures c.requires.in_bounds)

pub pack-requires : goal.pack-requires
pack-requires c =
    simp (length-take, length-drop)
    (omega (arith, room (goal.at.pack-requires c).In-loop-v, c.loop-v.invariant.0))

pub loop-v-preserved : goal.loop-v-preserved
unfolding difference
loop-v-preserved c =
    let at = c.loop-v in (
      search rules,
      laid_part _ _ _ _ _ _ _ _ _ (λ v. length-packed _ _) (ap (λ (w : ℕ). 8 + at.v * w) at.invariant.0)
          (room (goal.at.loop-v-preserved c).In-loop-v) (omega (arith, at.invariant.0)) c.pack.ensures at.invariant.1,
    )
