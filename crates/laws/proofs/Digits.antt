-- The number that digits spell, and the digits of a number, are inverse. Assumes nothing.
use Rattle.std.specs.Prelude.{ℕ, zero, suc, ◌+◌, ◌-◌, ◌%◌, ◌^◌, ◌≤◌, ◌<◌, ◌≡◌}
use Rattle.std.proofs.Common.{ap, ◌∙◌, mod-eq_of_lt}
use native.Mathlib.Omega.{arith}
use Rattle.std.proofs.lemmas.Nat.{mod-pow-add}
use Rattle.laws.specs.Digits.{number, digit, digit-le, digits_of, number_lt, number_shift}

-- ---- number and digit are inverse
-- the last k digits
pub low_digits : (n x k c : ℕ) → c + k ≡ n → number (digit n x) c k ≡ x % 2 ^ k
unfolding number digit
low_digits n x zero c e = omega arith
low_digits n x (suc k) c e =
    let q : n - 1 - c ≡ k = omega arith in
    let o : 1 + k ≡ suc k = omega arith in
    rw q (omega (arith, low_digits n x k (suc c) (omega arith), rw o at (mod-pow-add x 1 k)))

pub number-digit : (k x : ℕ) → x < 2 ^ k → number (digit k x) 0 k ≡ x
number-digit k x h = low_digits k x k 0 (omega arith) ∙ mod-eq_of_lt h

pub digit-number : (f : ℕ → ℕ) (c k i : ℕ) → ((i : ℕ) → c ≤ i → i < c + k → f i ≤ 1) → i < k → digit k (number f c k) i ≡ f (c + i)
digit-number f c k i ok h =
    digits_of (digit k (number f c k)) (λ j. f (c + j)) k 0 (λ j a b. digit-le k (number f c k) j)
    (λ j a b. ok (c + j) (omega arith) (omega arith))
    (number-digit k (number f c k) (number_lt f c k ok) ∙
    number_shift f (λ j. f (c + j)) c 0 k (λ j l. ap (λ (z : ℕ). f (c + z)) (omega arith)))
    i (omega arith) (omega arith)
