-- `cumulative::export` meets its contract: the file's checks, then its columns, then the buffer's, then the sums are laid. Assumes nothing.
use native.Mathlib.Omega.{arith}
use Prim.Native.Nat.{◌≤◌}
use Rattle.laws.specs.Lists.{rest_is}
use Rattle.laws.specs.Outcome.{ends-refused, ends-given}
use Rattle.fields.specs.Refusal.{passed_on}
use Rattle.files.specs.Checks.{checked-whole}
use Rattle.cumulative.specs.Exporting.{export_refused, export_wide, export_short, export_gives}
use Rattle.cumulative.specs.Exporting.{table_extent, rows-small, part_long, sums_laid}
use Rattle.cumulative.proofs.exporting.export.Goals as goal

pub returns-then-columns-gt-BITS : goal.returns-then-columns-gt-BITS
returns-then-columns-gt-BITS c =
    ends-refused _ _ _ _ _ (export_wide _ _ _ c.in_ok-rows.ensures (omega (arith, c.if-columns-gt-BITS.true)))

pub overflow_add-rows : goal.overflow_add-rows
overflow_add-rows c =
    let w = checked-whole _ _ c.in_ok-rows.ensures in
    record { fits = omega (arith, w.few_rows) }

pub returns-then-table-rows : goal.returns-then-table-rows
returns-then-table-rows c =
    ends-refused _ _ _ _ _
    (export_short _ _ _ c.in_ok-rows.ensures (omega (arith, c.if-columns-gt-BITS.false)) c.if-table-rows.true)

pub slice_bounds-add_up-count : goal.slice_bounds-add_up-count
slice_bounds-add_up-count c =
    let w = checked-whole _ _ c.in_ok-rows.ensures in
    omega (arith, w.long)

pub add_up-requires : goal.add_up-requires
add_up-requires c =
    let e = c.in_ok-rows.ensures in
    let w = checked-whole _ _ e in
    let narrow : c.in_ok-rows.field-0.columns ≤ 63 = omega (arith, c.if-columns-gt-BITS.false) in
    let long = part_long c.in_ok-rows.field-0.rows c.args.table.now c.if-table-rows.false in
    (rw long w.few_rows, narrow, rw (long, rest_is) (rows-small _ _ e narrow))

pub returns-in_err-rows : goal.returns-in_err-rows
returns-in_err-rows c =
    rw (passed_on c.from_residual.result _ c.from_residual.ensures.1)
    (ends-refused _ _ _ _ _ (export_refused _ _ _ c.in_err-rows.ensures))

pub returns : goal.returns
returns c =
    let long = part_long c.in_ok-rows.field-0.rows c.args.table.now c.if-table-rows.false in
    ends-given _ _ _ _ _ _ _
    (export_gives _ _ _ c.in_ok-rows.ensures (omega (arith, c.if-columns-gt-BITS.false)) c.if-table-rows.false)
    (table_extent _ _ _ (omega arith))
    (sums_laid _ _ _ _ c.if-table-rows.false (rw (long, rest_is) at c.add_up.ensures))

pub slice_bounds-add_up-start : goal.slice_bounds-add_up-start
slice_bounds-add_up-start c =
    let w = checked-whole _ _ c.in_ok-rows.ensures in
    omega (arith, w.long)
