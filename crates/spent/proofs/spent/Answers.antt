-- `spent::spent` meets its contract: the file's checks, then the strings', then what the walks have used. Assumes nothing.
use mathlib.Core.Path.{◌∙◌}
use Rattle.fields.specs.Refusal.{passed_on}
use Rattle.spent.specs.Ways.{spent_refused, spent_strings, spent_total}
use Rattle.spent.proofs.spent.Goals as goal

pub returns-in_err-size : goal.returns-in_err-size
returns-in_err-size c =
    passed_on c.from_residual.result _ c.from_residual.ensures.1 ∙ spent_refused _ _ _ c.in_err-size.ensures

pub returns-in_err-check_strings : goal.returns-in_err-check_strings
returns-in_err-check_strings c =
    let r = c.from_residual-in_err-check_strings in
    passed_on r.result _ r.ensures.1 ∙ spent_strings _ _ _ c.in_ok-size.ensures _ c.in_err-check_strings.ensures

pub returns : goal.returns
returns c = spent_total _ _ _ c.in_ok-size.ensures _ c.in_ok-check_strings.ensures c.sum_used.ensures
