-- `combining::short` meets its contract. Assumes nothing.
use mathlib.Core.Path.{refl}
use Rattle.combining.specs.Combining.{short}
use Rattle.combining.proofs.Four.short.Goals as goal

pub returns : goal.returns
unfolding short
returns c = refl
