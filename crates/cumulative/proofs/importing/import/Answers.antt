-- `cumulative::import` meets its contract: each return is a way through the checks; the last lays rows behind the header. Assumes nothing.
use mathlib.Core.Path.{sym}
use Rattle.laws.specs.Outcome.{ends-refused}
use Rattle.fields.specs.Refusal.{passed_on}
use Rattle.files.specs.Writing.{head_room}
use Rattle.cumulative.specs.Taken.{taken_iff}
use Rattle.cumulative.specs.Importing.{import_sizes, import_numbers, import_unheaded, import_headed}
use Rattle.cumulative.proofs.importing.import.Goals as goal

pub returns-in_err-table : goal.returns-in_err-table
returns-in_err-table c =
    let why = c.in_err-table.ensures.err in
    rw (passed_on c.from_residual.result _ c.from_residual.ensures.1, why.0)
    (ends-refused _ _ _ _ _ (import_sizes _ _ _ why.1))

pub pack_rows-requires : goal.pack_rows-requires
pack_rows-requires c =
    let t = c.in_ok-table.table in
    let ok = (taken_iff t.numbers.now t.columns).0 (t.sized, sym c.in_ok-check.ensures) in
    let head = head_room _ _ _ c.args.file.now _ (rw c.rows.ensures at c.in_ok-length.ensures) in
    record { rises = ok.rises; in_bounds = head.1 }

pub returns-in_err-check : goal.returns-in_err-check
returns-in_err-check c =
    let given = c.in_ok-table.ensures.ok in
    let r = c.from_residual-in_err-check in
    rw (passed_on r.result _ r.ensures.1, ← given.0, ← given.1)
    (ends-refused _ _ _ _ _ (import_numbers _ _ _ c.in_ok-table.table.sized _ c.in_err-check.ensures))

pub returns-in_err-length : goal.returns-in_err-length
returns-in_err-length c =
    let given = c.in_ok-table.ensures.ok in
    let r = c.from_residual-in_err-length in
    rw (passed_on r.result _ r.ensures.1, ← given.0, ← given.1)
    (import_unheaded _ _ c.args.file.now c.in_ok-table.table.sized c.in_ok-check.ensures _ _ (rw c.rows.ensures at c.in_err-length.ensures))

pub returns : goal.returns
returns c =
    let given = c.in_ok-table.ensures.ok in
    rw (← given.0, ← given.1)
    (import_headed _ _ c.args.file.now c.in_ok-table.table.sized c.in_ok-check.ensures _ _ _ (rw c.rows.ensures at c.in_ok-length.ensures)
    c.pack_rows.ensures)
