-- `corkhollow::corkhollow_export` meets its contract: the sizes of the table are told. Assumes nothing.
use Rattle.std.proofs.Common.{◌∙◌}
use Rattle.cumulative.specs.Tables.{extent}
use Rattle.corkhollow.specs.Telling.{none_returned, given_told, number_returned, left_told}
use Rattle.corkhollow.proofs.tables.corkhollow_export.Goals as goal

pub returns-in-Ok : goal.returns-in-Ok
returns-in-Ok c =
    let e = c.in-Ok.ensures.0 in (
      none_returned extent _ _ e,
      c.in-Ok.ensures.1,
      given_told extent _ _ e (λ x. x.numbers) _,
      given_told extent _ _ e (λ x. x.columns) _,
    )

pub returns-in-Err : goal.returns-in-Err
returns-in-Err c =
    let e = c.in-Err.ensures.0 in
    (c.from.ensures ∙ number_returned extent _ _ e, c.in-Err.ensures.1, left_told extent _ _ e _ _, left_told extent _ _ e _ _)
