-- Long division gives a row's number: the largest n-bit number not above 2^n × w / s, for every n. Assumes nothing.
use Prim.Native.Nat.{ℕ, zero, suc, ◌+◌, ◌-◌, ◌*◌, ◌/◌, ◌^◌, ◌≤◌, ◌<◌}
use Rattle.std.specs.Prelude.{◌≡◌, refl, Bool, true, false, leb}
use Rattle.std.proofs.Common.{sym, ◌∙◌, add-suc, eq-or-lt_of_le, le_trans, mul-le-mul_left, mul-le-mul_right, div-mul-le_self}
use Rattle.std.proofs.Common.{le-div_iff_mul-le, add-one, le-leb, leb-true, leb-false, pow_pos}
use Rattle.std.proofs.Math.Path.{ap}
use Rattle.std.proofs.Math.Logic.{⊎_elim}
use native.Mathlib.Omega.{arith}
use Rattle.std.proofs.Math.Nat.{pow-succ', add-zero, le_of_mul-le-mul_right, min-le_left, min-le_right, le-min}
use Rattle.std.proofs.lemmas.Bool.{lt-leb}
use Rattle.std.proofs.Math.Arith.{digits_div}
use Rattle.laws.specs.Tests.{reached, lt-or_ge}
use Rattle.laws.specs.Digits.{number, number_more, number_lt, number_shift, digit}
use Rattle.laws.proofs.Digits.{digit-number}
use Rattle.fields.specs.Fields.{Taken, padded, padded-below, padded-above, padded-both}
use Rattle.weights.specs.Weights.{share, next_rest, next_bit, rest_after, quotient, Stepped}

-- ---- one step
pub step_taken : (s rest : ℕ) → rest ≤ s → s ≤ 2 * rest → Stepped s rest 1 (2 * rest - s)
unfolding next_bit next_rest
step_taken s rest h l =
    record { bit_is = rw (le-leb s (2 * rest) l); rest_is = rw (le-leb s (2 * rest) l); small = omega arith; left = omega arith }

pub step_left : (s rest : ℕ) → rest ≤ s → 2 * rest < s → Stepped s rest 0 (2 * rest)
unfolding next_bit next_rest
step_left s rest h l =
    record { bit_is = rw (lt-leb s (2 * rest) l); rest_is = rw (lt-leb s (2 * rest) l); small = omega arith; left = omega arith }

-- what one step keeps: the bit is a bit, and twice the rest is split
record Split (s rest : ℕ) : Type 0 where
  is_bit : next_bit s rest ≤ 1
  sum : 2 * rest ≡ next_bit s rest * s + next_rest s rest
  less : (t : ℕ) → t ≤ s → s ≤ t + 1 → rest ≤ t → next_rest s rest ≤ t

split : (s rest : ℕ) → Split s rest
unfolding next_bit next_rest
split s rest = go (leb s (2 * rest)) refl
  where
    go : (b : Bool) → leb s (2 * rest) ≡ b → Split s rest
    go true e =
        let l : s ≤ 2 * rest = leb-true s (2 * rest) e in
        record { is_bit = rw e (omega arith); sum = rw e (omega arith); less = λ t a b h. rw e (omega arith) }
    go false e =
        let l : 2 * rest < s = leb-false s (2 * rest) e in
        record { is_bit = rw e (omega arith); sum = rw e (omega arith); less = λ t a b h. rw e (omega arith) }

-- ---- all steps
module _ (s w : ℕ) where
  -- what is left stays at most s, or below it
  rest_le : (t : ℕ) → t ≤ s → s ≤ t + 1 → w ≤ t → (c : ℕ) → rest_after s w c ≤ t
  unfolding rest_after
  rest_le t a b h zero = h
  rest_le t a b h (suc c) = (split s (rest_after s w c)).less t a b (rest_le t a b h c)

  pub quotient_le : (c : ℕ) → quotient s w c ≤ 1
  unfolding quotient
  quotient_le c = (split s (rest_after s w c)).is_bit

  -- the bits so far times s, and what is left, are 2^c × w
  divided : (c : ℕ) → 2 ^ c * w ≡ number (quotient s w) 0 c * s + rest_after s w c
  unfolding rest_after number quotient
  divided zero = omega arith
  divided (suc c) =
      let N : ℕ = number (quotient s w) 0 c in
      let R : ℕ = rest_after s w c in
      let place : 0 + c ≡ c = omega arith in
      let more : number (quotient s w) 0 (suc c) ≡ 2 * N + next_bit s R = rw (add-one c, place) at (number_more (quotient s w) 0 c) in
      step N R (number (quotient s w) 0 (suc c)) (next_bit s R) (next_rest s R) more (divided c) (split s R).sum
    where
      step : (N R M q R' : ℕ) → M ≡ 2 * N + q → 2 ^ c * w ≡ N * s + R → 2 * R ≡ q * s + R' → 2 ^ suc c * w ≡ M * s + R'
      step N R M q R' e i t = rw (pow-succ' 2 c, e) (omega arith)

  -- the bits are the share
  pub quotient-share : (n : ℕ) → 0 < s → w ≤ s → number (quotient s w) 0 n ≡ share n w s
  unfolding share
  quotient-share n z h =
      let small = number_lt (quotient s w) 0 n (λ i a b. quotient_le i) in
      ⊎_elim
      (λ (e : w ≡ s).
      let q : 2 ^ n * w / s ≡ 2 ^ n = rw (e, ← add-zero (2 ^ n * s)) (digits_div (2 ^ n) z) in
      let all : 2 ^ n * s ≡ number (quotient s w) 0 n * s + rest_after s w n = ap (λ (x : ℕ). 2 ^ n * x) (sym e) ∙ divided n in
      let high : 2 ^ n * s ≤ suc (number (quotient s w) 0 n) * s = omega (arith, rest_le s (omega arith) (omega arith) h n) in
      let top : 2 ^ n ≤ suc (number (quotient s w) 0 n) = le_of_mul-le-mul_right {k = s} high z in
      rw q (omega (arith, small)))
      (λ (l : w < s).
      let less : rest_after s w n < s = omega (arith, rest_le (s - 1) (omega arith) (omega arith) (omega arith) n) in
      let q : 2 ^ n * w / s ≡ number (quotient s w) 0 n = rw (divided n) (digits_div (number (quotient s w) 0 n) less) in
      rw q (omega (arith, small)))
      (eq-or-lt_of_le h)

  pub quotient_is : (n c : ℕ) → 0 < s → w ≤ s → c < n → quotient s w c ≡ digit n (share n w s) c
  quotient_is n c z h l =
      let place : 0 + c ≡ c = omega arith in
      rw (← quotient-share n z h) (sym (rw place at (digit-number (quotient s w) 0 n c (λ i a b. quotient_le i) l)))

-- ---- steps that go on from where others stopped
pub rest_on : (s w c t : ℕ) → rest_after s (rest_after s w c) t ≡ rest_after s w (c + t)
unfolding rest_after
rest_on s w c zero = rw (add-zero c)
rest_on s w c (suc t) = rw (add-suc c t) (ap (next_rest s) (rest_on s w c t))

-- byte q of a row: its eight steps from what the earlier bytes left
pub byte_on : (s w n q rest : ℕ) → rest ≡ rest_after s w (8 * q) →
    number (padded (n - 8 * q) (quotient s rest)) 0 8 ≡ number (padded n (quotient s w)) (8 * q) 8
unfolding quotient
byte_on s w n q rest e =
    number_shift (padded (n - 8 * q) (quotient s rest)) (padded n (quotient s w)) 0 (8 * q) 8
    (λ i l. let z : 0 + i ≡ i = omega arith in
    rw z
    (padded-both (λ (x : ℕ). x ≡ padded n (quotient s w) (8 * q + i)) (n - 8 * q) (quotient s rest) i
    (λ h. on i ∙ padded-below n (quotient s w) (8 * q + i) (omega arith)) (λ h. padded-above n (quotient s w) (8 * q + i) (omega arith))))
  where
    on : (i : ℕ) → quotient s rest i ≡ quotient s w (8 * q + i)
    on i = rw e (ap (next_bit s) (rest_on s w (8 * q) i))

pub rest_byte : (s w q rest : ℕ) → rest ≡ rest_after s w (8 * q) → rest_after s rest 8 ≡ rest_after s w (8 * (q + 1))
rest_byte s w q rest e =
    let place : 8 * q + 8 ≡ 8 * (q + 1) = omega arith in
    rw (e, ← place) (rest_on s w (8 * q) 8)

-- ---- the share is what 01 says
-- x is the largest n-bit number not above 2^n × w / s
pub record Largest (n w s x : ℕ) : Type 0 where
  pub fits : x < 2 ^ n
  pub not_above : x * s ≤ 2 ^ n * w
  pub largest : (y : ℕ) → y < 2 ^ n → y * s ≤ 2 ^ n * w → y ≤ x

pub share-largest : (n w s : ℕ) → 0 < s → Largest n w s (share n w s)
unfolding share
share-largest n w s z =
    record {
      fits = omega (arith, pow_pos n, min-le_right (2 ^ n * w / s) (2 ^ n - 1));
      not_above = le_trans (mul-le-mul_right s (min-le_left (2 ^ n * w / s) (2 ^ n - 1))) (div-mul-le_self (2 ^ n * w) s);
      largest = λ y h l. le-min ((le-div_iff_mul-le z).1 l) (omega arith);
    }

-- and at most one is missing, where w is at most s
pub largest-near : (n w s x : ℕ) → w ≤ s → Largest n w s x → 2 ^ n * w ≤ (x + 1) * s
largest-near n w s x h a =
    ⊎_elim (λ (l : x + 1 < 2 ^ n). ⊎_elim (λ (q : 2 ^ n * w < (x + 1) * s). omega arith)
    (λ (q : (x + 1) * s ≤ 2 ^ n * w). absurd (omega (arith, a.largest (x + 1) l q))) (lt-or_ge (2 ^ n * w) ((x + 1) * s)))
    (λ (l : 2 ^ n ≤ x + 1). le_trans (mul-le-mul_left (2 ^ n) h) (mul-le-mul_right s l))
    (lt-or_ge (x + 1) (2 ^ n))

-- a weight that has all of s gives 2^n - 1
pub share-all : (n s : ℕ) → 0 < s → share n s s ≡ 2 ^ n - 1
unfolding share
share-all n s z =
    let q : 2 ^ n * s / s ≡ 2 ^ n = rw (← add-zero (2 ^ n * s)) (digits_div (2 ^ n) z) in
    rw q (omega arith)

pub largest_one : (n w s x y : ℕ) → Largest n w s x → Largest n w s y → x ≡ y
largest_one n w s x y a b =
    let l : x ≤ y = b.largest x a.fits a.not_above in
    let g : y ≤ x = a.largest y b.fits b.not_above in
    omega arith

-- twice the weight of twice the sum is the same share
pub share_double : (n w s : ℕ) → 0 < s → share n (2 * w) (2 * s) ≡ share n w s
share_double n w s z =
    let a = share-largest n (2 * w) (2 * s) (omega arith) in
    largest_one n w s (share n (2 * w) (2 * s)) (share n w s)
    (record {
      fits = a.fits;
      not_above = omega (arith, a.not_above);
      largest = λ y h l. a.largest y h (omega arith);
    })
    (share-largest n w s z)

-- ---- the eight steps of a byte, turn by turn
pub rest-none : (s w : ℕ) → w ≡ rest_after s w 0
unfolding rest_after
rest-none s w = refl

pub rest-next : (s w t r r' : ℕ) → r ≡ rest_after s w t → r' ≡ next_rest s r → r' ≡ rest_after s w (t + 1)
unfolding rest_after
rest-next s w t r r' e q = rw (add-one t, q, e)

pub kept_is : (left s w t r b x : ℕ) → r ≡ rest_after s w t → b ≡ next_bit s r → x ≡ padded left (λ i. b) t →
    x ≡ padded left (quotient s w) (0 + t)
unfolding quotient
kept_is left s w t r b x e q k =
    let place : 0 + t ≡ t = omega arith in
    let is : b ≡ next_bit s (rest_after s w t) = q ∙ ap (next_bit s) e in
    rw (place, k)
    (padded-both (λ (y : ℕ). y ≡ padded left (quotient s w) t) left (λ i. b) t (λ h. is ∙ padded-below left (quotient s w) t h)
    (λ h. padded-above left (quotient s w) t h))

pub rest-done : (s w t r : ℕ) → t ≤ 8 → 8 ≤ t → r ≡ rest_after s w t → r ≡ rest_after s w 8
rest-done s w t r = reached (λ k. r ≡ rest_after s w k) t 8

pub quotient_next : (s w t r b : ℕ) → r ≡ rest_after s w t → b ≡ next_bit s r → b ≡ quotient s w t
unfolding quotient
quotient_next s w t r b e q = q ∙ ap (next_bit s) e

-- what is left has the quotient's other bits
pub bit_taken : (s rest b rest' : ℕ) → Stepped s rest b rest' → Taken (quotient s rest) b (quotient s rest')
unfolding quotient rest_after
bit_taken s rest b rest' p =
    record {
      small = p.small;
      first = p.bit_is;
      rest =
          λ i.
          let place : 1 + i ≡ i + 1 = omega arith in
          ap (next_bit s)
          (ap (λ (r : ℕ). rest_after s r i) p.rest_is ∙ (rest_on s rest 1 i ∙ ap (rest_after s rest) place));
    }
