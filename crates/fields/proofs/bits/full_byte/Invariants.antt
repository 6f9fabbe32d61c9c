-- `fields::full_byte` meets its contract: the byte so far is spelt by the bits taken, and the next ones follow. Assumes nothing.
use mathlib.Core.Path.{◌≡◌}
use Prim.Native.Nat.{ℕ, ◌+◌}
use Rattle.laws.specs.Digits.{Spelt}
use Rattle.fields.proofs.bits.full_byte.Given as goal

abbrev pub invariant-loop-t : goal.invariant-loop-t
invariant-loop-t g l =
    let f = g.B.Bits.bits l.initial.source in
    Spelt f 0 l.t l.byte × ((i : ℕ) → g.B.Bits.bits l.source i ≡ f (l.t + i))
