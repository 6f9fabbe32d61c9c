-- 02, order 2: the result of four signed samples, and which entries are signed samples. Assumes nothing.
use Rattle.std.specs.Prelude.{ℕ, ◌*◌, ◌≤◌, ◌<◌, ◌≡◌, refl, Bool, true, false, cond, not, ◌&&◌, ◌||◌, List, ◌↔◌, ◌⊎◌, leb, ℤ, pos, negsuc}
use Rattle.std.specs.Prelude.{nat_abs, ◌+ℤ◌, ◌*ℤ◌, length, get_or}
use Rattle.std.proofs.Common.{sym, ap, inl, inr, ⊎_elim, arith, mul-le-mul, leb-true, le-leb}
use Rattle.std.proofs.Math.Bool.{or-true}
use Rattle.std.proofs.lemmas.Bool.{not-false}
use Rattle.std.specs.Int.Signed.{le_z}
use Rattle.laws.specs.Tests.{never, both}
use Rattle.laws.specs.Sums.{any, any_false}
use Rattle.lanes.specs.Slicing.{lanes}
use Rattle.combining.specs.Integers.{same_z, same_z_so, same_z_other, size-sum, size-times}

-- a multiplier is 1 to 1,000
abbrev pub most_multiplier : ℕ
most_multiplier = 1000

abbrev pub combination : ℕ → ℕ → ℤ → ℤ → ℤ → ℤ → ℤ
combination first second x1 x2 x3 x4 = (x1 +ℤ pos first *ℤ x2) +ℤ pos second *ℤ (x3 +ℤ pos first *ℤ x4)

-- one step of it, as code has it
abbrev pub plus_times : ℕ → ℤ → ℤ → ℤ
plus_times k x y = x +ℤ pos k *ℤ y

-- whether an entry is the miss, and what stands for a miss among results
abbrev pub is_signed_miss : ℤ → Bool
is_signed_miss z = same_z z (pos 32767)

abbrev pub combined_miss : ℤ
combined_miss = pos 2147483647

abbrev pub any_miss : ℤ → ℤ → ℤ → ℤ → Bool
any_miss x1 x2 x3 x4 = is_signed_miss x1 || is_signed_miss x2 || is_signed_miss x3 || is_signed_miss x4

-- the result of a lane with these entries: with a miss in any of the four it is 2,147,483,647
unfoldable pub result_of : ℕ → ℕ → ℤ → ℤ → ℤ → ℤ → ℤ
result_of first second x1 x2 x3 x4 = cond (any_miss x1 x2 x3 x4) combined_miss (combination first second x1 x2 x3 x4)

-- an entry is a miss, or from -127 to 127
unfoldable pub is_sample : ℤ → Bool
is_sample z = is_signed_miss z || (le_z (negsuc 126) z && le_z z (pos 127))

-- entry j of a list
abbrev pub entry : List ℤ → ℕ → ℤ
entry xs j = get_or xs j (pos 0)

-- whether any of the first 64 entries is neither
unfoldable pub unsound : List ℤ → Bool
unsound xs = any lanes (λ j. not (is_sample (entry xs j)))

-- result j
abbrev pub result_at : ℕ → ℕ → List ℤ → List ℤ → List ℤ → List ℤ → ℕ → ℤ
result_at first second x1 x2 x3 x4 j = result_of first second (entry x1 j) (entry x2 j) (entry x3 j) (entry x4 j)

-- ---- sizes: no result of four values is the miss, or near it
pub times-size : (k b : ℕ) (y : ℤ) → k ≤ most_multiplier → nat_abs y ≤ b → nat_abs (pos k *ℤ y) ≤ 1000 * b
times-size k b y h l = omega (arith, size-times k y, mul-le-mul {n₁ = k} {m₁ = nat_abs y} {n₂ = 1000} {m₂ = b} h l)

pub plus_times-size : (k b : ℕ) (x y : ℤ) → k ≤ most_multiplier → nat_abs x ≤ b → nat_abs y ≤ b → nat_abs (plus_times k x y) ≤ 1001 * b
plus_times-size k b x y h l m = omega (arith, size-sum x (pos k *ℤ y), times-size k b y h m)

module _ (first second : ℕ) (x1 x2 x3 x4 : ℤ) (f : first ≤ most_multiplier) (s : second ≤ most_multiplier) (a : nat_abs x1 ≤ 127)
    (b : nat_abs x2 ≤ 127) (c : nat_abs x3 ≤ 127) (d : nat_abs x4 ≤ 127) where
  pub combination-size : nat_abs (combination first second x1 x2 x3 x4) ≤ 127254127
  combination-size =
      let low : nat_abs (plus_times first x1 x2) ≤ 127127 = omega (arith, plus_times-size first 127 x1 x2 f a b) in
      let high : nat_abs (plus_times first x3 x4) ≤ 127127 = omega (arith, plus_times-size first 127 x3 x4 f c d) in
      omega (arith, plus_times-size second 127127 (plus_times first x1 x2) (plus_times first x3 x4) s low high)

  pub never_miss : combination first second x1 x2 x3 x4 ≡ combined_miss → ⊥
  never_miss e = omega (arith, combination-size, ap nat_abs e)

-- ---- entries: from -127 to 127 is to be of size 127 or less
within-size : (z : ℤ) → (le_z (negsuc 126) z && le_z z (pos 127)) ≡ true → nat_abs z ≤ 127
within-size (pos m) e = leb-true m 127 e
within-size (negsuc m) e = omega (arith, leb-true m 126 (both (leb m 126) true e).0)

size-within : (z : ℤ) → nat_abs z ≤ 127 → (le_z (negsuc 126) z && le_z z (pos 127)) ≡ true
size-within (pos m) h = le-leb m 127 h
size-within (negsuc m) h = rw (le-leb m 126 (omega arith))

-- a sample is the miss, or of size 127 or less
pub sample-is : (z : ℤ) → (is_sample z ≡ true) ↔ ((z ≡ pos 32767) ⊎ (nat_abs z ≤ 127))
unfolding is_sample
sample-is z = (
  go (is_signed_miss z) refl,
  ⊎_elim (λ (e : z ≡ pos 32767). rw e) (λ (h : nat_abs z ≤ 127). rw (size-within z h) (or-true (is_signed_miss z))),
)
  where
    go : (t : Bool) → is_signed_miss z ≡ t → (t || (le_z (negsuc 126) z && le_z z (pos 127))) ≡ true → (z ≡ pos 32767) ⊎ (nat_abs z ≤ 127)
    go true q e = inl (same_z_so z (pos 32767) q)
    go false q e = inr (within-size z e)

-- ---- a result is the sum where all four hit, and the miss exactly where one of them misses
pub value_hits : (z : ℤ) → nat_abs z ≤ 127 → is_signed_miss z ≡ false
value_hits z h = same_z_other z (pos 32767) (λ e. omega (arith, ap nat_abs e))

hit-size : (z : ℤ) → is_sample z ≡ true → is_signed_miss z ≡ false → nat_abs z ≤ 127
hit-size z e h = ⊎_elim (λ (q : z ≡ pos 32767). never (sym (rw q at h))) (λ (l : nat_abs z ≤ 127). l) ((sample-is z).0 e)

module _ (first second : ℕ) (x1 x2 x3 x4 : ℤ) where
  pub some_miss : any_miss x1 x2 x3 x4 ≡ true → result_of first second x1 x2 x3 x4 ≡ combined_miss
  unfolding result_of
  some_miss e = rw e

  pub all-hit : is_signed_miss x1 ≡ false → is_signed_miss x2 ≡ false → is_signed_miss x3 ≡ false → is_signed_miss x4 ≡ false →
      result_of first second x1 x2 x3 x4 ≡ combination first second x1 x2 x3 x4
  unfolding result_of
  all-hit a b c d = rw (a, b, c, d)

  pub result_miss : first ≤ most_multiplier → second ≤ most_multiplier → is_sample x1 ≡ true → is_sample x2 ≡ true → is_sample x3 ≡ true →
      is_sample x4 ≡ true → same_z (result_of first second x1 x2 x3 x4) combined_miss ≡ any_miss x1 x2 x3 x4
  result_miss f s a b c d = go (is_signed_miss x1) (is_signed_miss x2) (is_signed_miss x3) (is_signed_miss x4) refl refl refl refl
    where
      missed : any_miss x1 x2 x3 x4 ≡ true → same_z (result_of first second x1 x2 x3 x4) combined_miss ≡ true
      missed e = rw (some_miss e)

      go : (p q r t : Bool) → is_signed_miss x1 ≡ p → is_signed_miss x2 ≡ q → is_signed_miss x3 ≡ r → is_signed_miss x4 ≡ t →
          same_z (result_of first second x1 x2 x3 x4) combined_miss ≡ (p || q || r || t)
      go true q r t e1 e2 e3 e4 = missed (rw e1)
      go false true r t e1 e2 e3 e4 = missed (rw (e1, e2))
      go false false true t e1 e2 e3 e4 = missed (rw (e1, e2, e3))
      go false false false true e1 e2 e3 e4 = missed (rw (e1, e2, e3, e4))
      go false false false false e1 e2 e3 e4 =
          rw (all-hit e1 e2 e3 e4)
          (same_z_other (combination first second x1 x2 x3 x4) combined_miss
          (never_miss first second x1 x2 x3 x4 f s (hit-size x1 a e1) (hit-size x2 b e2) (hit-size x3 c e3) (hit-size x4 d e4)))

-- ---- entries as code has them: the value of one, 0 for a miss, is small
abbrev pub value_of : ℤ → ℤ
value_of z = cond (is_signed_miss z) (pos 0) z

abbrev pub SmallValue : ℤ → Type 0
SmallValue z = nat_abs (value_of z) ≤ 127

pub sample-small : (z : ℤ) → is_sample z ≡ true → SmallValue z
sample-small z e =
    ⊎_elim (λ (q : z ≡ pos 32767). rw q (omega arith)) (λ (h : nat_abs z ≤ 127). go (is_signed_miss z) h) ((sample-is z).0 e)
  where
    go : (t : Bool) → nat_abs z ≤ 127 → nat_abs (cond t (pos 0) z) ≤ 127
    go true h = omega arith
    go false h = h

-- with the values in place of the entries, and the miss in place of the sum where one of them does not hit
pub result_is : (first second : ℕ) (x1 x2 x3 x4 : ℤ) →
    cond (not (is_signed_miss x1) && not (is_signed_miss x2) && not (is_signed_miss x3) && not (is_signed_miss x4))
    (combination first second (value_of x1) (value_of x2) (value_of x3) (value_of x4)) combined_miss ≡ result_of first second x1 x2 x3 x4
unfolding result_of
result_is first second x1 x2 x3 x4 = go (is_signed_miss x1) (is_signed_miss x2) (is_signed_miss x3) (is_signed_miss x4)
  where
    go : (a b c d : Bool) → cond (not a && not b && not c && not d)
        (combination first second (cond a (pos 0) x1) (cond b (pos 0) x2) (cond c (pos 0) x3) (cond d (pos 0) x4)) combined_miss ≡
        cond (a || b || c || d) combined_miss (combination first second x1 x2 x3 x4)
    go true b c d = refl
    go false true c d = refl
    go false false true d = refl
    go false false false true = refl
    go false false false false = refl

-- 64 entries, each a miss or a signed sample
pub record Samples (xs : List ℤ) : Type 0 where
  pub long : lanes ≤ length xs
  pub each : (j : ℕ) → j < lanes → is_sample (entry xs j) ≡ true

pub sound_samples : (xs : List ℤ) → lanes ≤ length xs → unsound xs ≡ false → Samples xs
unfolding unsound
sound_samples xs l e =
    record { long = l; each = λ j h. not-false _ (any_false lanes j (λ j. not (is_sample (entry xs j))) e h) }
