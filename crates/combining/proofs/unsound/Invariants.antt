-- `combining::unsound` meets its contract: whether any of the entries before this one is unsound. Assumes nothing.
use mathlib.Core.Path.{◌≡◌}
use mathlib.Core.Bool.{not}
use Rattle.laws.specs.Sums.{any}
use Rattle.combining.specs.Combination.{entry, is_sample}
use Rattle.combining.proofs.unsound.Given as goal

abbrev pub invariant-loop-entry : goal.invariant-loop-entry
invariant-loop-entry l = l.any ≡ any l.entry-index (λ j. not (is_sample (entry l.x j)))
