-- `corkhollow::corkhollow_read` meets its contract: the sizes are told. Assumes nothing.
use Rattle.std.proofs.Common.{◌∙◌}
use Rattle.files.specs.Matrix.{sizes}
use Rattle.corkhollow.specs.Telling.{none_returned, given_told, number_returned, left_told}
use Rattle.corkhollow.proofs.matrices.corkhollow_read.Goals as goal

pub returns-in-Ok : goal.returns-in-Ok
returns-in-Ok c =
    let e = c.in-Ok.ensures.0 in (
      none_returned sizes _ _ e,
      c.in-Ok.ensures.1,
      given_told sizes _ _ e (λ s. s.rows) _,
      given_told sizes _ _ e (λ s. s.columns) _,
    )

pub returns-in-Err : goal.returns-in-Err
returns-in-Err c =
    let e = c.in-Err.ensures.0 in
    (c.from.ensures ∙ number_returned sizes _ _ e, c.in-Err.ensures.1, left_told sizes _ _ e _ _, left_told sizes _ _ e _ _)
