-- `walk::used` meets its contract: the column of a hit and one more, or all columns. Assumes nothing.
use native.Mathlib.Omega.{arith}
use mathlib.Core.Path.{◌∙◌}
use Rattle.walk.specs.Used.{draw_at_column, hit-used, miss_used}
use Rattle.walk.proofs.used.Goals as goal

pub overflow_add-result : goal.overflow_add-result
overflow_add-result c =
    let below = draw_at_column _ _ _ _ _ c.in-Some.ensures in
    record { fits = omega (arith, below, c.field-n.ensures.value, c.field-n.ensures.upper_bound) }

pub returns-in-Some : goal.returns-in-Some
returns-in-Some c = hit-used _ _ _ _ c.in-Some.ensures

pub returns-in-None : goal.returns-in-None
returns-in-None c = c.field-n.ensures.value ∙ miss_used _ _ c.in-None.ensures
