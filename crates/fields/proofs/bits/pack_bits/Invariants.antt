-- `fields::pack_bits` meets its contract: the bytes so far are laid, and the bits that are left follow. Assumes nothing.
use mathlib.Core.Path.{◌≡◌}
use Prim.Native.Nat.{ℕ, ◌+◌, ◌-◌, ◌*◌}
use Rattle.std.specs.Prelude.{min}
use Rattle.laws.specs.Digits.{number}
use Rattle.laws.specs.Lists.{upto}
use Rattle.laws.specs.Lay.{Laid}
use Rattle.fields.specs.Fields.{padded}
use Rattle.fields.proofs.bits.pack_bits.Given as goal

abbrev pub invariant-loop-byte : goal.invariant-loop-byte
invariant-loop-byte g l =
    let f = g.B.Bits.bits l.initial.source in
    (l.left ≡ l.n - 8 * l.byte-index) × ((i : ℕ) → g.B.Bits.bits l.source i ≡ f (min (8 * l.byte-index) l.n + i)) ×
    Laid 0 (upto l.byte-index (λ q. number (padded l.n f) (8 * q) 8)) l.initial.bytes l.bytes
