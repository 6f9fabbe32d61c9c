-- `cumulative::lookup` meets its contract: each return is a way through the checks; the last reads the count. Assumes nothing.
use mathlib.Core.Path.{◌≡◌, sym}
use mathlib.Core.Bool.{false}
use Prim.Native.Nat.{◌^◌}
use lib.ListN.{length-drop}
use Rattle.fields.specs.Refusal.{passed_on}
use Rattle.fields.specs.Limits.{outside}
use Rattle.cumulative.specs.Lookup.{lookup_sizes, lookup_range, lookup_numbers, lookup_counted}
use Rattle.cumulative.proofs.looking.lookup.Goals as goal
use Rattle.cumulative.proofs.looking.lookup.Goals.{Else-r-power}

-- what holds past r's range
ranged : (c : Else-r-power) → outside (2 ^ c.in_ok-table.table.columns) c.args.r ≡ false
ranged c = rw c.power.ensures at c.if-r-power.false

pub returns-in_err-table : goal.returns-in_err-table
returns-in_err-table c =
    let why = c.in_err-table.ensures.err in
    rw (passed_on c.from_residual.result _ c.from_residual.ensures.1, why.0) (sym (lookup_sizes _ _ _ why.1))

pub returns-then-r-power : goal.returns-then-r-power
returns-then-r-power c =
    let given = c.in_ok-table.ensures.ok in
    rw (← given.0, ← given.1)
    (sym (lookup_range _ _ _ c.in_ok-table.table.sized (rw c.power.ensures at c.if-r-power.true)))

pub returns-in_err-check : goal.returns-in_err-check
returns-in_err-check c =
    let given = c.in_ok-table.ensures.ok in
    let r = c.from_residual-in_err-check in
    rw (passed_on r.result _ r.ensures.1, ← given.0, ← given.1)
    (sym (lookup_numbers _ _ _ c.in_ok-table.table.sized (ranged (goal.at.returns-in_err-check c).Else-r-power) _ c.in_err-check.ensures))

pub returns : goal.returns
returns c =
    let t = c.in_ok-table.table in
    let given = c.in_ok-table.ensures.ok in
    rw (← given.0, ← given.1)
    (lookup_counted _ _ _ t.sized (ranged (goal.at.returns c).Else-r-power) c.in_ok-check.ensures _ c.below-s.ensures _
    (rw (c.rows.ensures, ← length-drop 1 t.numbers.now) at c.then_some.ensures))
