-- `corkhollow::corkhollow_check` meets its contract: the header is told. Assumes nothing.
use Rattle.std.proofs.Common.{◌∙◌}
use Rattle.programs.specs.declared.description.Program.{Program}
use Rattle.checker.specs.Checks.{Code}
use Rattle.corkhollow.specs.Telling.{none_returned, given_told, number_returned, left_told}
use Rattle.corkhollow.proofs.runs.corkhollow_check.Goals as goal

abbrev header : Code → Program
header c = c.program

pub returns-in-Ok : goal.returns-in-Ok
returns-in-Ok c =
    let e = c.in-Ok.ensures in (
      none_returned header _ _ e,
      given_told header _ _ e (λ p. p.registers) _,
      given_told header _ _ e (λ p. p.inputs) _,
      given_told header _ _ e (λ p. p.outputs) _,
      given_told header _ _ e (λ p. p.rows) _,
      given_told header _ _ e (λ p. p.count) _,
    )

pub returns-in-Err : goal.returns-in-Err
returns-in-Err c =
    let e = c.in-Err.ensures in (
      c.from.ensures ∙ number_returned header _ _ e,
      left_told header _ _ e _ _,
      left_told header _ _ e _ _,
      left_told header _ _ e _ _,
      left_told header _ _ e _ _,
      left_told header _ _ e _ _,
    )
