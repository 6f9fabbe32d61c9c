-- `fields::padded_byte` meets its contract: the byte so far is spelt by the bits taken, and the next ones follow. Assumes nothing.
use mathlib.Core.Path.{◌≡◌}
use Prim.Native.Nat.{ℕ, ◌+◌}
use Rattle.std.specs.Prelude.{min}
use Rattle.laws.specs.Digits.{Spelt}
use Rattle.fields.specs.Fields.{padded}
use Rattle.fields.proofs.bits.padded_byte.Given as goal

abbrev pub invariant-loop-t : goal.invariant-loop-t
invariant-loop-t g l =
    let f = g.B.Bits.bits l.initial.source in
    Spelt (padded l.left f) 0 l.t l.byte × ((i : ℕ) → g.B.Bits.bits l.source i ≡ f (min l.t l.left + i))
