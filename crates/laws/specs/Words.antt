-- Words by their bits, bit 0 the lowest: a lane of words is one bit of each (01, "Runs, words, samples"). Assumes nothing.
use Rattle.std.specs.Prelude.{ℕ, zero, suc, ◌+◌, ◌-◌, ◌*◌, ◌/◌, ◌%◌, ◌^◌, min, max, ◌≤◌, ◌<◌, ◌≡◌, refl, ℤ}
use Rattle.std.proofs.Common.{sym, ap, ◌∙◌, ⊎_elim, add-zero, zero-add, eq-or-lt_of_le, le_of_suc-le-suc, mod-eq_of_lt, arith, to_z-of_z}
use Rattle.std.proofs.Common.{SFits, to_z, of_z, pow_pos, shr-shr}
use Rattle.std.proofs.Math.Nat.{zero-div, pow-succ', le_dest}
use Rattle.std.specs.Int.{Width}
use Rattle.std.specs.Int.Bits.{bit_and, bit_or, bit_xor, differ, and_step, or_step, xor_step}
use Rattle.std.proofs.lemmas.Nat.{and_le_r, and_mask, and_shr, or_shr, xor_shr, shl-shr, mod-pow-add}
use Rattle.std.proofs.Math.Pow.{high, low, field, mod-mod-pow}
use Rattle.laws.specs.Digits.{digit_lt}

-- bit j of x
unfoldable pub bit_at : ℕ → ℕ → ℕ
bit_at x j = x / 2 ^ j % 2

-- the number whose bits are f 0, f 1, .., f (k - 1), lowest first
unfoldable pub pack : ℕ → (ℕ → ℕ) → ℕ
pack zero f = 0
pack (suc k) f = f k * 2 ^ k + pack k f

-- ---- signed numbers: one that fits its width is kept
pub kept : {w : Width} (z z' : ℤ) → SFits w z → z ≡ z' → to_z w (of_z w z) ≡ z'
kept {w} z z' h e = to_z-of_z {w = w} {z = z} h ∙ e

-- ---- one bit
pub bit_at_lt : (x j : ℕ) → bit_at x j < 2
unfolding bit_at
bit_at_lt x j = omega arith

pub bit_at_zero : (j : ℕ) → bit_at 0 j ≡ 0
unfolding bit_at
bit_at_zero j = rw zero-div

-- by a shift and a mask
pub bit_at_read : (x j : ℕ) → bit_and (x / 2 ^ j) 1 ≡ bit_at x j
unfolding bit_at
bit_at_read x j = and_mask (x / 2 ^ j) 1

-- what a mask leaves is below whatever the mask is below
pub masked_lt : (x m n : ℕ) → m < n → bit_and x m < n
masked_lt x m n h = omega (arith, and_le_r x m)

-- a bit below place w does not see what stands from there on
pub bit_at_mod : (x w j : ℕ) → j < w → bit_at (x % 2 ^ w) j ≡ bit_at x j
unfolding bit_at
bit_at_mod x w j h = at (le_dest h)
  where
    at : ((a : ℕ) × (suc j + a ≡ w)) → x % 2 ^ w / 2 ^ j % 2 ≡ x / 2 ^ j % 2
    at (a, e) =
        let is : w ≡ (a + 1) + j = omega arith in
        rw is (ap (λ (y : ℕ). y % 2) (field x (a + 1) j) ∙ mod-mod-pow (x / 2 ^ j) a 1)

bit-low : (hi k lo j : ℕ) → lo < 2 ^ k → j < k → bit_at (hi * 2 ^ k + lo) j ≡ bit_at lo j
bit-low hi k lo j h l = sym (bit_at_mod (hi * 2 ^ k + lo) k j l) ∙ ap (λ (x : ℕ). bit_at x j) (low hi k h)

bit_top : (b k lo : ℕ) → b < 2 → lo < 2 ^ k → bit_at (b * 2 ^ k + lo) k ≡ b
unfolding bit_at
bit_top b k lo h l = rw (high b k l) (mod-eq_of_lt h)

-- ---- all bits
-- the number depends on its k bits alone
pub pack-eq : (k : ℕ) (f g : ℕ → ℕ) → ((j : ℕ) → j < k → f j ≡ g j) → pack k f ≡ pack k g
unfolding pack
pack-eq zero f g e = refl
pack-eq (suc k) f g e = omega (arith, ap (λ (x : ℕ). x * 2 ^ k) (e k (omega arith)), pack-eq k f g (λ j l. e j (omega arith)))

pub pack-lt : (k : ℕ) (f : ℕ → ℕ) → ((j : ℕ) → j < k → f j < 2) → pack k f < 2 ^ k
unfolding pack
pack-lt zero f ok = omega arith
pack-lt (suc k) f ok =
    omega (
      arith,
      pow-succ' 2 k,
      digit_lt (f k) (2 ^ k) (pack k f) (omega (arith, ok k (omega arith))) (pack-lt k f (λ j l. ok j (omega arith))),
    )

-- the law of the lane: bit j of what is packed is the j-th that was packed
pub bit_at_pack : (k : ℕ) (f : ℕ → ℕ) (j : ℕ) → ((j : ℕ) → j < k → f j < 2) → j < k → bit_at (pack k f) j ≡ f j
unfolding pack
bit_at_pack zero f j ok h = absurd (omega arith)
bit_at_pack (suc k) f j ok h =
    let ok' : (j : ℕ) → j < k → f j < 2 = λ j l. ok j (omega arith) in
    ⊎_elim
    (λ (q : j ≡ k). rw q (bit_top (f k) k (pack k f) (ok k (omega arith)) (pack-lt k f ok')))
    (λ (q : j < k). bit-low (f k) k (pack k f) j (pack-lt k f ok') q ∙ bit_at_pack k f j ok' q)
    (eq-or-lt_of_le (le_of_suc-le-suc h))

-- a number is packed of its own bits
low_bits : (k x : ℕ) → pack k (bit_at x) ≡ x % 2 ^ k
unfolding pack bit_at
low_bits zero x = omega arith
low_bits (suc k) x =
    let o : 1 + k ≡ suc k = omega arith in
    omega (arith, low_bits k x, rw o at (mod-pow-add x 1 k))

pub pack-bits : (k x : ℕ) → x < 2 ^ k → pack k (bit_at x) ≡ x
pack-bits k x h = low_bits k x ∙ mod-eq_of_lt h

-- what is packed, cut to its first k bits
pub pack-mod : (n k : ℕ) (f : ℕ → ℕ) → ((j : ℕ) → j < n → f j < 2) → k ≤ n → pack n f % 2 ^ k ≡ pack k f
pack-mod n k f ok h = sym (low_bits k (pack n f)) ∙ pack-eq k (bit_at (pack n f)) f (λ j l. bit_at_pack n f j ok (omega arith))

-- bits that are all 0 from place n on add nothing, and bits that are all 1 are the largest number
pub pack-short : (n a : ℕ) (f : ℕ → ℕ) → ((j : ℕ) → n ≤ j → f j ≡ 0) → pack (a + n) f ≡ pack n f
unfolding pack
pack-short n zero f e = ap (λ (m : ℕ). pack m f) (zero-add n)
pack-short n (suc a) f e =
    let o : suc a + n ≡ suc (a + n) = omega arith in
    rw (o, e (a + n) (omega arith)) (omega (arith, pack-short n a f e))

pub pack-ones : (k : ℕ) → pack k (λ j. 1) ≡ 2 ^ k - 1
unfolding pack
pack-ones zero = refl
pack-ones (suc k) = omega (arith, pack-ones k, pow-succ' 2 k, pow_pos k)

-- ---- AND, OR, exclusive or and NOT, lane by lane
pub bit_at_and : (x y j : ℕ) → bit_at (bit_and x y) j ≡ min (bit_at x j) (bit_at y j)
unfolding bit_at
bit_at_and x y j = rw (and_shr x y j) (omega (arith, and_step (x / 2 ^ j) (y / 2 ^ j)))

pub bit_at_or : (x y j : ℕ) → bit_at (bit_or x y) j ≡ max (bit_at x j) (bit_at y j)
unfolding bit_at
bit_at_or x y j = rw (or_shr x y j) (omega (arith, or_step (x / 2 ^ j) (y / 2 ^ j)))

differ-is : (x y : ℕ) → differ x y ≡ (x - y) + (y - x)
differ-is zero y = omega arith
differ-is (suc x) zero = omega arith
differ-is (suc x) (suc y) = omega (arith, differ-is x y)

pub bit_at_xor : (x y j : ℕ) → bit_at (bit_xor x y) j ≡ (bit_at x j - bit_at y j) + (bit_at y j - bit_at x j)
unfolding bit_at
bit_at_xor x y j =
    rw (xor_shr x y j) (omega (arith, xor_step (x / 2 ^ j) (y / 2 ^ j), differ-is (x / 2 ^ j % 2) (y / 2 ^ j % 2)))

bit-suc : (x j : ℕ) → bit_at x (suc j) ≡ bit_at (x / 2) j
unfolding bit_at
bit-suc x j =
    let o : 1 + j ≡ suc j = omega arith in
    rw (← o, ← shr-shr x 1 j)

bit_lowest : (w x : ℕ) → x < 2 ^ suc w → bit_at ((2 ^ suc w - 1) - x) 0 ≡ 1 - bit_at x 0
unfolding bit_at
bit_lowest w x h = omega (arith, pow-succ' 2 w)

pub bit_at_not : (w x j : ℕ) → x < 2 ^ w → j < w → bit_at ((2 ^ w - 1) - x) j ≡ 1 - bit_at x j
bit_at_not zero x j h l = absurd (omega arith)
bit_at_not (suc w) x zero h l = bit_lowest w x h
bit_at_not (suc w) x (suc j) h l =
    let half : ((2 ^ suc w - 1) - x) / 2 ≡ (2 ^ w - 1) - x / 2 = omega (arith, pow-succ' 2 w) in
    rw (bit-suc ((2 ^ suc w - 1) - x) j, bit-suc x j, half) (bit_at_not w (x / 2) j (omega (arith, pow-succ' 2 w)) (omega arith))

-- ---- shifts at a width of w bits
pub bit_at_shr : (x k j : ℕ) → bit_at (x / 2 ^ k) j ≡ bit_at x (k + j)
unfolding bit_at
bit_at_shr x k j = rw (shr-shr x k j)

module _ (x k w j : ℕ) (h : j < w) where
  -- below place k a shift by k leaves 0, from there on the bits of x
  pub bit_at_shl_below : j < k → bit_at ((x * 2 ^ k) % 2 ^ w) j ≡ 0
  bit_at_shl_below l =
      bit_at_mod (x * 2 ^ k) w j h ∙
      (ap (λ (y : ℕ). bit_at y j) (sym (add-zero (x * 2 ^ k))) ∙ (bit-low x k 0 j (pow_pos k) l ∙ bit_at_zero j))

  pub bit_at_shl : k ≤ j → bit_at ((x * 2 ^ k) % 2 ^ w) j ≡ bit_at x (j - k)
  bit_at_shl l =
      let is : j ≡ k + (j - k) = omega arith in
      bit_at_mod (x * 2 ^ k) w j h ∙
      (ap (bit_at (x * 2 ^ k)) is ∙
      (sym (bit_at_shr (x * 2 ^ k) k (j - k)) ∙ ap (λ (y : ℕ). bit_at y (j - k)) (shl-shr x k)))
