-- `corkhollow::corkhollow_lookup` meets its contract: the sample is told, or 255. Assumes nothing.
use Rattle.std.proofs.Common.{◌∙◌}
use Rattle.walk.specs.Walk.{Answer}
use Rattle.lanes.specs.Samples.{code}
use Rattle.corkhollow.specs.Telling.{whole, none_returned, given_told, number_returned, left_told, row_told}
use Rattle.corkhollow.proofs.tables.corkhollow_lookup.Goals as goal

abbrev all : Answer → Answer
all a = a

pub returns-in-Ok : goal.returns-in-Ok
returns-in-Ok c =
    let e = whole _ _ c.in-Ok.ensures in
    (none_returned all _ _ e, c.unwrap_or.ensures ∙ row_told c.in-Ok.found ∙ given_told all _ _ e code _)

pub returns-in-Err : goal.returns-in-Err
returns-in-Err c =
    let e = whole _ _ c.in-Err.ensures in
    (c.from.ensures ∙ number_returned all _ _ e, left_told all _ _ e _ _)
