-- `checker::check` meets its contract: header first, then the body. Assumes nothing.
use mathlib.Core.Path.{sym, ◌∙◌}
use Rattle.fields.specs.Refusal.{passed_on}
use Rattle.programs.specs.Inverse.{header-reads}
use Rattle.checker.specs.Checking.{check_refused, check_body}
use Rattle.checker.proofs.checking.check.Goals as goal

pub body-requires : goal.body-requires
body-requires c =
    let r = header-reads _ _ (sym c.in_ok-p.ensures) in
    (r.inside, r.room)

pub returns-in_err-p : goal.returns-in_err-p
returns-in_err-p c = passed_on c.from_residual.result _ c.from_residual.ensures.1 ∙ check_refused _ _ c.in_err-p.ensures

pub returns : goal.returns
returns c =
    check_body _ _ c.in_ok-p.ensures _ c.body.ensures
