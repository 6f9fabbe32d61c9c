-- k, the value bits of m rows: the bits needed to write m - 1, what these words mean, and the ranges of m in which k is one number (01,
-- "Translation"; 02, order 6). Assumes nothing.
use Rattle.std.specs.Prelude.{ℕ, zero, suc, ◌-◌, ◌*◌, ◌^◌, ◌≤◌, ◌<◌, ◌≡◌, refl, Bool, true, false, cond, ◌↔◌, ltb}
use Rattle.std.proofs.Math.Nat.{pow-succ'}
use Rattle.std.proofs.Common.{lt_of_not-le, arith, ltb-true, ltb-false, pow_pos, pow_mono}

-- the bits needed to write x, where those needed to write x - 1 are k: one more where k bits are too few
abbrev pub widened : ℕ → ℕ → ℕ
widened x k = cond (ltb x (2 ^ k)) k (suc k)

-- the bits needed to write x, none for 0
unfoldable pub bits_to_write : ℕ → ℕ
bits_to_write zero = 0
bits_to_write (suc x) = widened (suc x) (bits_to_write x)

-- k, for m rows: the bits needed to write m - 1
unfoldable pub row_bits : ℕ → ℕ
row_bits m = bits_to_write (m - 1)

-- ---- what "needed" means
-- k bits are needed to write x: x is below 2^k, and not below 2^(k-1) where k is above 0
pub record Needed (x k : ℕ) : Type 0 where
  pub below : x < 2 ^ k
  pub not_below : 0 < k → 2 ^ (k - 1) ≤ x

twice_half : (k : ℕ) → 0 < k → 2 * 2 ^ (k - 1) ≡ 2 ^ k
twice_half zero h = absurd (omega arith)
twice_half (suc j) h =
    let e : suc j - 1 ≡ j = omega arith in
    rw (e, pow-succ' 2 j)

-- fewer do not write it
pub fewest : (x k j : ℕ) → Needed x k → x < 2 ^ j → k ≤ j
fewest x k j s h = omega (arith, lt_of_not-le fewer)
  where
    fewer : suc j ≤ k → ⊥
    fewer q = omega (arith, s.not_below (omega arith), pow_mono {i = j} {j = k - 1} (omega arith))

-- so that it is one number
needed_one : (x k j : ℕ) → Needed x k → Needed x j → k ≡ j
needed_one x k j a b = omega (arith, fewest x k j a b.below, fewest x j k b a.below)

-- ---- it is what `bits_to_write` says
-- the next number needs the bits that `widened` says
next_needed : (x k : ℕ) (b : Bool) → ltb (suc x) (2 ^ k) ≡ b → Needed x k → Needed (suc x) (cond b k (suc k))
next_needed x k true e s = record { below = ltb-true (suc x) (2 ^ k) e; not_below = λ h. omega (arith, s.not_below h) }
next_needed x k false e s =
    record {
      below = rw (pow-succ' 2 k) (omega (arith, s.below, pow_pos k));
      not_below = λ h. omega (arith, twice_half (suc k) h, pow-succ' 2 k, ltb-false (suc x) (2 ^ k) e);
    }

bits_needed : (x : ℕ) → Needed x (bits_to_write x)
unfolding bits_to_write
bits_needed zero = record { below = omega arith; not_below = λ h. absurd (omega arith) }
bits_needed (suc x) = next_needed x (bits_to_write x) (ltb (suc x) (2 ^ bits_to_write x)) refl (bits_needed x)

pub bits_iff : (x k : ℕ) → (k ≡ bits_to_write x) ↔ Needed x k
bits_iff x k = ((λ e. rw e (bits_needed x)), (λ s. needed_one x k (bits_to_write x) s (bits_needed x)))

-- ---- of m rows
rows_needed : (m : ℕ) → Needed (m - 1) (row_bits m)
unfolding row_bits
rows_needed m = bits_needed (m - 1)

-- a row's number is below 2^k
pub row_lt : (m v : ℕ) → v < m → v < 2 ^ row_bits m
row_lt m v h = omega (arith, (rows_needed m).below)

-- at most 128 rows need at most 7 bits
pub few_bits : (m : ℕ) → m ≤ 128 → row_bits m ≤ 7
few_bits m h = fewest (m - 1) (row_bits m) 7 (rows_needed m) (omega arith)

-- ---- by ranges: k bits are needed for more than half of 2^k rows and at most 2^k
pub ranged : (m k : ℕ) → 2 ^ k < 2 * m → m ≤ 2 ^ k → k ≡ row_bits m
ranged m k a b = needed_one (m - 1) k (row_bits m) needed (rows_needed m)
  where
    needed : Needed (m - 1) k
    needed = record { below = omega arith; not_below = λ h. omega (arith, twice_half k h) }

pub ranged_iff : (m k : ℕ) → 1 ≤ m → (k ≡ row_bits m) ↔ ((2 ^ k < 2 * m) × (m ≤ 2 ^ k))
ranged_iff m k h = ((λ e. rw e (within (row_bits m) (rows_needed m))), (λ s. ranged m k s.0 s.1))
  where
    within : (j : ℕ) → Needed (m - 1) j → (2 ^ j < 2 * m) × (m ≤ 2 ^ j)
    within zero s = (omega arith, omega (arith, s.below))
    within (suc j) s =
        let l : 0 < suc j = omega arith in
        (omega (arith, s.not_below l, twice_half (suc j) l), omega (arith, s.below))
