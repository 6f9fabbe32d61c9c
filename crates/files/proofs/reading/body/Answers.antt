-- `files::body` meets its contract: the rows as strings, then their sum. Assumes nothing.
use mathlib.Core.Bool.{true, false, not}
use mathlib.Core.Path.{ap, ◌∙◌}
use Rattle.fields.specs.Refusal.{passed_on}
use Rattle.laws.specs.Lists.{rest_is}
use Rattle.files.specs.Checks.{body_refused, body_sum}
use Rattle.files.proofs.reading.body.Goals as goal

pub returns-then-not-fit : goal.returns-then-not-fit
returns-then-not-fit c =
    let pre = c.requires in
    let tried = rw rest_is at c.fit.ensures in
    body_sum _ _ pre true _ (rw rest_is at c.in_ok-check_strings.ensures)
    c.width.ensures (ap not (rw tried at c.if-not-fit.true))

pub returns-in_err-check_strings : goal.returns-in_err-check_strings
returns-in_err-check_strings c =
    passed_on c.from_residual.result _ c.from_residual.ensures.1 ∙
    body_refused _ _ c.requires _ (rw rest_is at c.in_err-check_strings.ensures)

pub returns : goal.returns
returns c =
    let pre = c.requires in
    let tried = rw rest_is at c.fit.ensures in
    body_sum _ _ pre false _ (rw rest_is at c.in_ok-check_strings.ensures)
    c.width.ensures (ap not (rw tried at c.if-not-fit.false))
