-- A number by its binary digits, the first digit the highest: how 01 reads a row, a byte and a string of bits. Assumes nothing.
use Rattle.std.specs.Prelude.{ℕ, zero, suc, ◌+◌, ◌-◌, ◌*◌, ◌/◌, ◌%◌, ◌^◌, ◌≤◌, ◌<◌, ◌≡◌, refl, ◌≢◌}
use Rattle.std.proofs.Common.{ap, sym, ◌∙◌, ⊎_elim, add-zero, eq-or-lt_of_le, mul-le-mul_right, add-one, pow-add, pow_mono}
use Rattle.std.proofs.Math.Nat.{pow-succ'}
use native.Mathlib.Omega.{arith}
use Rattle.std.specs.Int.Bits.{bit_and}
use Rattle.std.proofs.lemmas.Nat.{and_mask, shl-shr}
use Rattle.std.proofs.Math.Pow.{high, low}
use Rattle.laws.specs.Tests.{reached}

-- the number whose k digits are f c, f (c + 1), ..
unfoldable pub number : (ℕ → ℕ) → ℕ → ℕ → ℕ
number f c zero = 0
number f c (suc k) = f c * 2 ^ k + number f (suc c) k

-- digit i of the k digits of x
unfoldable pub digit : ℕ → ℕ → ℕ → ℕ
digit k x i = x / 2 ^ (k - 1 - i) % 2

pub digit-le : (k x i : ℕ) → digit k x i ≤ 1
unfolding digit
digit-le k x i = omega arith

-- ---- digits from c on, k of them
number_snoc : (f : ℕ → ℕ) (c k : ℕ) → number f c (suc k) ≡ 2 * number f c k + f (c + k)
unfolding number
number_snoc f c zero = omega (arith, ap f (add-zero c))
number_snoc f c (suc k) =
    let e : suc c + k ≡ c + suc k = omega arith in
    rw (pow-succ' 2 k) (omega (arith, number_snoc f (suc c) k, ap f e))

-- one more digit at the end, in the words of a loop that reads on
pub number_more : (f : ℕ → ℕ) (c k : ℕ) → number f c (k + 1) ≡ 2 * number f c k + f (c + k)
number_more f c k = rw (add-one k) (number_snoc f c k)

-- k digits, then j more
pub number-split : (f : ℕ → ℕ) (c k j : ℕ) → number f c (k + j) ≡ number f c k * 2 ^ j + number f (c + k) j
unfolding number
number-split f c zero j =
    let none : 0 + j ≡ j = omega arith in
    rw (none, add-zero c) (omega arith)
number-split f c (suc k) j =
    let more : suc k + j ≡ suc (k + j) = omega arith in
    let on : suc c + k ≡ c + suc k = omega arith in
    rw (more, pow-add 2 k j) (omega (arith, rw on at (number-split f (suc c) k j)))

-- the digits may be counted from elsewhere
pub number_shift : (f g : ℕ → ℕ) (c d k : ℕ) → ((i : ℕ) → i < k → f (c + i) ≡ g (d + i)) → number f c k ≡ number g d k
unfolding number
number_shift f g c d zero e = refl
number_shift f g c d (suc k) e =
    let h : f c ≡ g d = ap f (omega arith) ∙ (e 0 (omega arith) ∙ ap g (omega arith)) in
    omega (
      arith,
      ap (λ (x : ℕ). x * 2 ^ k) h,
      number_shift f g (suc c) (suc d) k (λ i l. ap f (omega arith) ∙ (e (suc i) (omega arith) ∙ ap g (omega arith))),
    )

pub digit_lt : (x p r : ℕ) → x ≤ 1 → r < p → x * p + r < 2 * p
digit_lt x p r h l = omega (arith, mul-le-mul_right {m = x} {n = 1} p h)

pub number_lt : (f : ℕ → ℕ) (c k : ℕ) → ((i : ℕ) → c ≤ i → i < c + k → f i ≤ 1) → number f c k < 2 ^ k
unfolding number
number_lt f c zero ok = omega arith
number_lt f c (suc k) ok =
    rw (pow-succ' 2 k)
    (omega (
      arith,
      digit_lt (f c) (2 ^ k) (number f (suc c) k) (ok c (omega arith) (omega arith))
          (number_lt f (suc c) k (λ i a b. ok i (omega arith) (omega arith))),
    ))

apart : (x y k r t : ℕ) → r < 2 ^ k → t < 2 ^ k → x * 2 ^ k + r ≡ y * 2 ^ k + t → (x ≡ y) × (r ≡ t)
apart x y k r t l q e = (
  sym (high x k l) ∙ (ap (λ (z : ℕ). z / 2 ^ k) e ∙ high y k q),
  sym (low x k l) ∙ (ap (λ (z : ℕ). z % 2 ^ k) e ∙ low y k q),
)

-- the number fixes its digits
pub digits_of : (f g : ℕ → ℕ) (k c : ℕ) → ((i : ℕ) → c ≤ i → i < c + k → f i ≤ 1) → ((i : ℕ) → c ≤ i → i < c + k → g i ≤ 1) →
    number f c k ≡ number g c k → (i : ℕ) → c ≤ i → i < c + k → f i ≡ g i
unfolding number
digits_of f g zero c okf okg e i a b = absurd (omega arith)
digits_of f g (suc k) c okf okg e i a b =
    let okf' : (i : ℕ) → suc c ≤ i → i < suc c + k → f i ≤ 1 = λ i a b. okf i (omega arith) (omega arith) in
    let okg' : (i : ℕ) → suc c ≤ i → i < suc c + k → g i ≤ 1 = λ i a b. okg i (omega arith) (omega arith) in
    let d = apart (f c) (g c) k (number f (suc c) k) (number g (suc c) k) (number_lt f (suc c) k okf') (number_lt g (suc c) k okg') e in
    ⊎_elim (λ (q : c ≡ i). rw (← q) d.0) (λ (q : c < i). digits_of f g k (suc c) okf' okg' d.1 i q (omega arith)) (eq-or-lt_of_le a)

-- a mask of 1 is the rest of a division by 2
pub and_one : (x : ℕ) → bit_and x 1 ≡ x % 2
and_one x = and_mask x 1

-- ---- a loop that reads digits on: x is the number that the k digits from c on spell
pub record Spelt (f : ℕ → ℕ) (c k x : ℕ) : Type 0 where
  pub is : x ≡ number f c k
  pub small : x < 2 ^ k

module _ (f : ℕ → ℕ) (c : ℕ) where
  pub spelt_none : Spelt f c 0 0
  unfolding number
  spelt_none = record { is = refl; small = omega arith }

  pub spelt_more : (k x b : ℕ) → b ≡ f (c + k) → b ≤ 1 → Spelt f c k x → Spelt f c (k + 1) (2 * x + b)
  spelt_more k x b e h s =
      record { is = rw (e, s.is) (sym (number_more f c k)); small = rw (add-one k, pow-succ' 2 k) (omega (arith, s.small)) }

  -- room for one digit more
  pub spelt_room : (k n x : ℕ) → k < n → Spelt f c k x → 2 * x + 1 < 2 ^ n
  spelt_room k n x h s = omega (arith, s.small, pow_mono {i = suc k} {j = n} h, pow-succ' 2 k)

  pub spelt_done : (k n x : ℕ) → k ≤ n → n ≤ k → Spelt f c k x → x ≡ number f c n
  spelt_done k n x a b s = reached (λ j. x ≡ number f c j) k n a b s.is

-- ---- digits that are all 0
pub number-zero : (f : ℕ → ℕ) (c k : ℕ) → ((i : ℕ) → i < k → f (c + i) ≡ 0) → number f c k ≡ 0
unfolding number
number-zero f c zero e = refl
number-zero f c (suc k) e =
    let h : f c ≡ 0 = ap f (omega arith) ∙ e 0 (omega arith) in
    omega (
      arith,
      ap (λ (x : ℕ). x * 2 ^ k) h,
      number-zero f (suc c) k (λ i l. ap f (omega arith) ∙ e (suc i) (omega arith)),
    )

pub zero_digits : (f : ℕ → ℕ) (c k : ℕ) → ((i : ℕ) → c ≤ i → i < c + k → f i ≤ 1) → number f c k ≡ 0 → (i : ℕ) → c ≤ i → i < c + k → f i ≡ 0
zero_digits f c k ok e = digits_of f (λ i. 0) k c ok (λ i a b. omega arith) (e ∙ sym (number-zero (λ i. 0) c k (λ i l. refl)))

-- ---- digits behind a shift
shifted : (a d t : ℕ) → a * 2 ^ (suc t + d) / 2 ^ d % 2 ≡ 0
shifted a d t =
    let e : a * 2 ^ (suc t + d) ≡ a * 2 ^ suc t * 2 ^ d = rw (pow-add 2 (suc t) d) (omega arith) in
    rw (e, shl-shr (a * 2 ^ suc t) d, pow-succ' 2 t) (omega arith)

-- of n digits that end in those of a at place c, all after it are 0
pub digit-behind : (n a c i : ℕ) → c < i → i < n → digit n (a * 2 ^ (n - 1 - c)) i ≡ 0
unfolding digit
digit-behind n a c i h l =
    let e : n - 1 - c ≡ suc (i - suc c) + (n - 1 - i) = omega arith in
    rw e (shifted a (n - 1 - i) (i - suc c))

-- ---- one more in a digit
pub number-add : (f g : ℕ → ℕ) (c k t b : ℕ) → t < k → g (c + t) ≡ f (c + t) + b → ((i : ℕ) → i < k → i ≢ t → f (c + i) ≡ g (c + i)) →
    number g c k ≡ number f c k + b * 2 ^ (k - 1 - t)
unfolding number
number-add f g c zero t b h e s = absurd (omega arith)
number-add f g c (suc k) zero b h e s =
    let z : suc k - 1 - 0 ≡ k = omega arith in
    let e' : g c ≡ f c + b = rw (add-zero c) at e in
    rw (z, e')
    (omega (
      arith,
      number_shift f g (suc c) (suc c) k
          (λ i l. ap f (omega arith) ∙ (s (suc i) (omega arith) (λ q. omega arith) ∙ ap g (omega arith))),
    ))
number-add f g c (suc k) (suc t) b h e s =
    let z : suc k - 1 - suc t ≡ k - 1 - t = omega arith in
    let on : suc c + t ≡ c + suc t = omega arith in
    let e' : g (suc c + t) ≡ f (suc c + t) + b = rw on e in
    let first : f c ≡ g c = ap f (omega arith) ∙ (s 0 (omega arith) (λ q. omega arith) ∙ ap g (omega arith)) in
    rw (z, ← first)
    (omega (
      arith,
      number-add f g (suc c) k t b (omega arith) e'
          (λ i l n. ap f (omega arith) ∙ (s (suc i) (omega arith) (λ q. n (omega arith)) ∙ ap g (omega arith))),
    ))
