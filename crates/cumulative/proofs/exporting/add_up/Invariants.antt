-- `cumulative::add_up` meets its contract: v sums are laid, and the sum is that of v rows. Assumes nothing.
use mathlib.Core.Path.{◌≡◌}
use Prim.Native.Nat.{◌+◌}
use Rattle.laws.specs.Sums.{sum_to}
use Rattle.laws.specs.Lists.{upto}
use Rattle.laws.specs.Lay.{Laid}
use Rattle.cumulative.specs.Exporting.{row_at}
use Rattle.cumulative.proofs.exporting.add_up.Given as goal

abbrev pub invariant-loop-v : goal.invariant-loop-v
invariant-loop-v l =
    (l.sum ≡ sum_to l.v (row_at l.bytes l.n)) × Laid 0 (upto l.v (λ v'. sum_to (v' + 1) (row_at l.bytes l.n))) l.initial.sums l.sums
