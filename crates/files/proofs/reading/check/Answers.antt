-- `files::check` meets its contract: the header's checks, then those of the rows. Assumes nothing.
use mathlib.Core.Path.{sym, ◌∙◌}
use Rattle.fields.specs.Refusal.{passed_on}
use Rattle.files.specs.Files.{matrix_under}
use Rattle.files.specs.Checks.{header-says}
use Rattle.files.proofs.reading.check.Goals as goal

pub body-requires : goal.body-requires
body-requires c = (header-says _ _ (sym c.in_ok-size.ensures)).sized

pub returns-in_err-size : goal.returns-in_err-size
unfolding matrix_under
returns-in_err-size c = passed_on c.from_residual.result _ c.from_residual.ensures.1 ∙ rw (← c.in_err-size.ensures)

pub returns : goal.returns
unfolding matrix_under
returns c =
    rw (← c.in_ok-size.ensures) c.body.ensures
