-- `weights::divide_rows` meets its contract: v rows are laid. Assumes nothing.
use mathlib.Core.Path.{◌≡◌}
use lib.ListN.{get_or}
use Rattle.laws.specs.Lists.{blocks}
use Rattle.laws.specs.Lay.{Laid}
use Rattle.fields.specs.Fields.{packed, width}
use Rattle.weights.specs.Weights.{counted, quotient}
use Rattle.weights.proofs.building.divide_rows.Given as goal

abbrev pub invariant-loop-v : goal.invariant-loop-v
invariant-loop-v l =
    (l.bytes ≡ width l.n) ×
    Laid 8 (blocks l.v (λ v'. packed l.n (quotient l.s (counted l.usage v' (get_or l.weights v' 0))))) l.initial.file l.file
