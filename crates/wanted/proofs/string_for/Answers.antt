-- `wanted::string_for` meets its contract: each return is a way through the checks. Assumes nothing.
use native.Mathlib.Omega.{arith}
use mathlib.Core.Path.{refl, ◌∙◌}
use Rattle.laws.specs.Smallest.{smallest_lt}
use Rattle.laws.specs.Lay.{lay-nothing}
use Rattle.laws.specs.Outcome.{ends-refused, ends-given}
use Rattle.fields.specs.Refusal.{passed_on}
use Rattle.files.specs.Checks.{checked-whole}
use Rattle.wanted.specs.Ways.{wanted-refused, wanted-row, wanted_room, wanted-none, wanted-found}
use Rattle.wanted.proofs.string_for.Goals as goal

pub returns-in_err-size : goal.returns-in_err-size
returns-in_err-size c =
    let ended = ends-refused _ _ _ _ _ (wanted-refused _ _ _ _ c.in_err-size.ensures) in
    (passed_on c.from_residual.result _ c.from_residual.ensures.1 ∙ ended.0, ended.1)

pub returns-then-size-row : goal.returns-then-size-row
returns-then-size-row c = ends-refused _ _ _ _ _ (wanted-row _ _ _ _ c.in_ok-size.ensures c.if-size-row.true)

pub returns-then-string-width : goal.returns-then-string-width
returns-then-string-width c =
    ends-refused _ _ _ _ _
    (wanted_room _ _ _ _ c.in_ok-size.ensures c.if-size-row.false (rw c.width.ensures at c.if-string-width.true))

pub invariant_of-rows : goal.invariant_of-rows
invariant_of-rows c =
    let whole = checked-whole _ _ c.in_ok-size.ensures in
    record { few_rows = omega (arith, whole.few_rows); few_columns = omega (arith, whole.few_columns) }

pub lay_string-requires : goal.lay_string-requires
lay_string-requires c =
    (c.if-size-row.false, smallest_lt _ _ _ c.in-Some.ensures, rw c.width.ensures at c.if-string-width.false)

pub returns-in-None : goal.returns-in-None
returns-in-None c =
    let fits = rw c.width.ensures at c.if-string-width.false in
    ends-given _ _ _ _ _ _ _ (wanted-none _ _ _ _ c.in_ok-size.ensures c.if-size-row.false fits c.in-None.ensures) refl (lay-nothing _)

pub returns-in-Some : goal.returns-in-Some
returns-in-Some c =
    let fits = rw c.width.ensures at c.if-string-width.false in
    ends-given _ _ _ _ _ _ _ (wanted-found _ _ _ _ c.in_ok-size.ensures c.if-size-row.false fits _ c.in-Some.ensures) refl
    c.lay_string.ensures
