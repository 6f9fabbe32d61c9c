-- `corkhollow::corkhollow_walk` meets its contract: the row and the columns used are told. Assumes nothing.
use Rattle.std.specs.Prelude.{ℕ, Option}
use Rattle.std.proofs.Common.{◌∙◌, ap, sym}
use Rattle.walk.specs.Walk.{Spending, row_answer}
use Rattle.lanes.specs.Samples.{code}
use Rattle.corkhollow.specs.Telling.{whole, none_returned, given_told, number_returned, left_told}
use Rattle.corkhollow.proofs.matrices.corkhollow_walk.Goals as goal

abbrev all : Spending → Spending
all w = w

pub returns-in-Some : goal.returns-in-Some
returns-in-Some c =
    let e = whole _ _ c.in-Ok.ensures in (
      none_returned all _ _ e,
      sym (ap (λ (r : Option ℕ). code (row_answer r)) c.in-Some.is) ∙ given_told all _ _ e (λ w. code w.answer) _,
      given_told all _ _ e (λ w. w.used) _,
    )

pub returns-in-None : goal.returns-in-None
returns-in-None c =
    let e = whole _ _ c.in-Ok.ensures in (
      none_returned all _ _ e,
      sym (ap (λ (r : Option ℕ). code (row_answer r)) c.in-None.is) ∙ given_told all _ _ e (λ w. code w.answer) _,
      given_told all _ _ e (λ w. w.used) _,
    )

pub returns-in-Err : goal.returns-in-Err
returns-in-Err c =
    let e = whole _ _ c.in-Err.ensures in
    (c.from.ensures ∙ number_returned all _ _ e, left_told all _ _ e _ _, left_told all _ _ e _ _)
