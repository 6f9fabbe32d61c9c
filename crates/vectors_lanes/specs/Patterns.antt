-- What is cast to print the bits of a signed number is not negative, whatever its width. Assumes nothing.
use Rattle.std.proofs.Common.{ltb-true, arith, pow_mono}
use Rattle.std.specs.Prelude.{ℕ, suc, ◌-◌, ◌^◌, ◌≤◌, ◌<◌, true, false, ◌≡◌, T, ℤ, pos, negsuc, nat_abs}
use Rattle.std.specs.Int.Signed.{lt_z, non_neg}
use Rattle.std.proofs.Math.Facts.{to_z_pos}
use Rattle.std.specs.Int.{Width, w8, w16, w32, w64, w128}
use mir.Val.{SFits, bits, hbits, of_z, to_z}

-- what a cast that takes no sign asks of z, in numbers up to `most`
abbrev pub Castable : ℕ → ℤ → Type 0
Castable most z = T (non_neg z) × (nat_abs z ≤ most)

half : (w : Width) → 2 ^ hbits w ≤ 2 ^ bits w
half w = pow_mono (fewer w)
  where
    fewer : (w : Width) → hbits w ≤ bits w
    fewer w8 = omega arith
    fewer w16 = omega arith
    fewer w32 = omega arith
    fewer w64 = omega arith
    fewer w128 = omega arith

-- of -n - 1 the complement is n
pub complement : (w : Width) (z : ℤ) → SFits w z → lt_z (to_z w (of_z w z)) (pos 0) ≡ true →
    Castable (2 ^ bits w - 1) (to_z w ((2 ^ bits w - 1) - of_z w z))
complement w (pos n) f t =
    let below : n < 0 = ltb-true n 0 (rw (to_z_pos w {n = n} f.sfits) at t) in
    absurd (omega arith)
complement w (negsuc n) f t =
    let e : (2 ^ bits w - 1) - (2 ^ bits w - suc n) ≡ n = omega (arith, f.sfits, half w) in
    rw (e, to_z_pos w {n = n} f.sfits) (tt, omega (arith, f.sfits, half w))

pub not_negative : (z : ℤ) → lt_z z (pos 0) ≡ false → T (non_neg z)
not_negative (pos n) e = tt
not_negative (negsuc n) e = let z : ◌≡◌ {A = ℕ} 0 1 = cc in omega arith
