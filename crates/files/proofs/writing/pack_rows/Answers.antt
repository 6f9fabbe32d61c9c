-- `files::pack_rows` meets its contract: v rows are laid. Assumes nothing.
use borrow.Author.Rules.{rules}
use native.Mathlib.Omega.{arith}
use mathlib.Core.Path.{◌≡◌, refl, ap}
use Prim.Native.Nat.{ℕ, ◌+◌, ◌-◌, ◌*◌, ◌≤◌}
use Rattle.laws.specs.Lists.{row-end, length_part, part_at}
use Rattle.laws.specs.Lay.{blocks-none, laid_part}
use lib.ListN.{length, get_or}
use Rattle.fields.specs.Fields.{length-packed, packed, width}
use Rattle.files.specs.Sizes.{cell, row_place}
use Rattle.files.specs.Writing.{no_entry-above, row_packed}
use Rattle.files.proofs.writing.pack_rows.Goals as goal
use Rattle.files.proofs.writing.pack_rows.Goals.{In-loop-v}

pub loop-v-init : goal.loop-v-init
loop-v-init c = (search rules, blocks-none _ _ _)

-- the row's entries, and the room of its bytes
row : (c : In-loop-v) → let n = c.args.sizes.columns in c.loop-v.v * n + n ≤ length c.args.entries.now
row c = row-end c.args.sizes.columns _ c.loop-v-test.true refl c.requires.2

room : (c : In-loop-v) → 8 + c.loop-v.v * c.width-w.result + width c.args.sizes.columns ≤ length c.args.file.now
room c = row_place _ c.loop-v-test.true c.loop-v.invariant.0 c.requires.3

pub pack_row-requires : goal.pack_row-requires
pack_row-requires c =
    let s = c.args in
    let n : ℕ = s.sizes.columns in
    let v = c.loop-v.v in
    let long = length_part (v * n) (v * n + n - v * n) n s.entries.now (omega arith) (row (goal.at.pack_row-requires c).In-loop-v) in
    let w = c.width-w.result in
    let wide = length_part (8 + v * w) (8 + v * w + w - (8 + v * w)) w c.loop-v.file (omega arith)
    (omega (arith, room (goal.at.pack_row-requires c).In-loop-v, c.loop-v.invariant.0)) in (
      omega (arith, long, c.requires.1),
      rw (long, wide) c.width-w.ensures,
      λ i h. rw (part_at (v * n) (v * n + n - v * n) n s.entries.now 0 i (omega arith) (omega (arith, long)))
          (no_entry-above _ s.entries.now c.requires.4 _ (cell c.loop-v-test.true (omega (arith, long)))),
    )

pub loop-v-preserved : goal.loop-v-preserved
loop-v-preserved c =
    let at = c.loop-v in
    let s = c.args in
    let n : ℕ = s.sizes.columns in
    let row : c.pack_row.new.bytes ≡ packed n (λ i. get_or s.entries.now (at.v * n + i) 0) =
    row_packed (at.v * n) (at.v * n + n - at.v * n) n _ _ (omega arith) (row (goal.at.loop-v-preserved c).In-loop-v) c.pack_row.ensures in (
      search rules,
      laid_part _ _ _ _ _ _ _ _ _ (λ v. length-packed _ _) (ap (λ (w : ℕ). 8 + at.v * w) at.invariant.0)
          (room (goal.at.loop-v-preserved c).In-loop-v) (omega (arith, at.invariant.0)) row at.invariant.1,
    )
