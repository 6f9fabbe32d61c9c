-- `walk::walk` meets its contract: the file's checks, then the string's, then what is drawn from the file's rows. Assumes nothing.
use native.Mathlib.Omega.{arith}
use mathlib.Core.Path.{ap, ◌∙◌}
use Rattle.laws.specs.Outcome.{mapped}
use Rattle.fields.specs.Refusal.{passed_on}
use Rattle.files.specs.Checks.{checked-whole}
use Rattle.walk.specs.Walk.{walked}
use Rattle.walk.specs.Ways.{walk_refused, walk_string, walk_hits, walk_misses, hit-column}
use Rattle.walk.proofs.walk.Goals as goal

pub returns-in_err-size : goal.returns-in_err-size
returns-in_err-size c =
    ap (mapped walked) (passed_on c.from_residual.result _ c.from_residual.ensures.1) ∙ walk_refused _ _ _ c.in_err-size.ensures

pub returns-in_err-check_strings : goal.returns-in_err-check_strings
returns-in_err-check_strings c =
    let r = c.from_residual-in_err-check_strings in
    ap (mapped walked) (passed_on r.result _ r.ensures.1) ∙
    walk_string _ _ _ c.in_ok-size.ensures _ c.in_err-check_strings.ensures

pub overflow_add-result : goal.overflow_add-result
overflow_add-result c =
    let accepted = c.in_ok-size.ensures in
    let below = hit-column _ _ _ accepted _ _ c.in-Some.ensures in
    record { fits = omega (arith, below, (checked-whole _ _ accepted).few_columns) }

pub returns-in-Some : goal.returns-in-Some
returns-in-Some c = walk_hits _ _ _ c.in_ok-size.ensures c.in_ok-check_strings.ensures _ _ c.in-Some.ensures

pub returns-in-None : goal.returns-in-None
returns-in-None c = walk_misses _ _ _ c.in_ok-size.ensures c.in_ok-check_strings.ensures c.in-None.ensures
