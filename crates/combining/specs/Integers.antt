-- Integers compared, and their sizes. Assumes nothing.
use Rattle.std.specs.Prelude.{ℕ, zero, suc, ◌+◌, ◌-◌, ◌*◌, ◌^◌, ◌≤◌, ◌<◌, ◌≡◌, refl, Bool, true, false, cond, ◌↔◌, eqb, ltb, ℤ, pos, negsuc}
use Rattle.std.specs.Prelude.{neg_ℤ, nat_abs, ◌+ℤ◌, ◌*ℤ◌}
use Rattle.std.proofs.Common.{ap, arith, eqb-true, eq-eqb, ltb-true}
use mir.Val.{SFits, hbits}
use Rattle.std.specs.Int.{Width}
use Rattle.std.proofs.Math.IntN.{sub_ℕ}
use Rattle.laws.specs.Tests.{never}

-- whether two integers are equal
abbrev pub same_z : ℤ → ℤ → Bool
same_z (pos m) (pos n) = eqb m n
same_z (pos m) (negsuc n) = false
same_z (negsuc m) (pos n) = false
same_z (negsuc m) (negsuc n) = eqb m n

pub same_z_so : (a b : ℤ) → same_z a b ≡ true → a ≡ b
same_z_so (pos m) (pos n) e = ap pos (eqb-true m n e)
same_z_so (pos m) (negsuc n) e = never e
same_z_so (negsuc m) (pos n) e = never e
same_z_so (negsuc m) (negsuc n) e = ap negsuc (eqb-true m n e)

pub same_z_self : (a : ℤ) → same_z a a ≡ true
same_z_self (pos m) = eq-eqb m m refl
same_z_self (negsuc m) = eq-eqb m m refl

pub same_z-is : (a b : ℤ) → (same_z a b ≡ true) ↔ (a ≡ b)
same_z-is a b = (same_z_so a b, λ e. rw e (same_z_self b))

pub same_z_other : (a b : ℤ) → (a ≡ b → ⊥) → same_z a b ≡ false
same_z_other a b n = go (same_z a b) refl
  where
    go : (t : Bool) → same_z a b ≡ t → t ≡ false
    go true e = absurd (n (same_z_so a b e))
    go false e = refl

-- ---- sizes
sub-size : (a b : ℕ) → nat_abs (sub_ℕ a b) ≤ a + b
sub-size a b = go (ltb a b) refl
  where
    go : (t : Bool) → ltb a b ≡ t → nat_abs (cond t (negsuc (b - suc a)) (pos (a - b))) ≤ a + b
    go true e = omega (arith, ltb-true a b e)
    go false e = omega arith

pub size-sum : (a b : ℤ) → nat_abs (a +ℤ b) ≤ nat_abs a + nat_abs b
size-sum (pos a) (pos b) = omega arith
size-sum (pos a) (negsuc b) = sub-size a (suc b)
size-sum (negsuc a) (pos b) = omega (arith, sub-size b (suc a))
size-sum (negsuc a) (negsuc b) = omega arith

neg_size : (n : ℕ) → nat_abs (neg_ℤ (pos n)) ≡ n
neg_size zero = refl
neg_size (suc n) = refl

pub size-times : (k : ℕ) (z : ℤ) → nat_abs (pos k *ℤ z) ≡ k * nat_abs z
size-times k (pos n) = refl
size-times k (negsuc n) = neg_size (k * suc n)

-- what is small fits
pub size_fits : {w : Width} (z : ℤ) → nat_abs z < 2 ^ hbits w → SFits w z
size_fits (pos n) h = record { sfits = h }
size_fits (negsuc n) h = record { sfits = omega arith }
