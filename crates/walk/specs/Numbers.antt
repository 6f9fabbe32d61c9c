-- 02, order 7: strings of bits as numbers, b_0 highest. Assumes nothing.
use Rattle.std.specs.Prelude.{ℕ, suc, ◌+◌, ◌*◌, ◌/◌, ◌^◌, ◌≤◌, ◌<◌, ◌≡◌, List, ◌↔◌, take}
use Rattle.std.proofs.Common.{sym, ap, ◌∙◌, zero-add, add-one, arith, ext_get_or, length-take-le}
use Rattle.std.proofs.Math.Nat.{div-eq_of_lt-le}
use Rattle.std.proofs.Math.ListN.{get_or}
use Rattle.std.proofs.Math.Pow.{high}
use Rattle.std.proofs.Math.Seq.{get_or-take}
use Rattle.laws.specs.Digits.{number, digit, digit-le, number_more, number-split, number_lt, number_shift}
use Rattle.laws.proofs.Digits.{number-digit}
use Rattle.laws.proofs.Digits.{digit-number}
use Rattle.laws.specs.Lists.{upto, length-upto, get_d_upto}
use Rattle.fields.specs.Fields.{bit_of}
use Rattle.walk.specs.Strings.{Bits}

-- the first k bits of a string, as a number
unfoldable pub string_number : ℕ → List ℕ → ℕ
string_number k s = number (λ i. get_or s i 0) 0 k

-- the string of n bits whose number is x
unfoldable pub number_string : ℕ → ℕ → List ℕ
number_string n x = upto n (digit n x)

-- the number of the first n bits of packed bytes
abbrev pub read_number : ℕ → List ℕ → ℕ
read_number n bytes = string_number n (upto n (bit_of bytes 0))

-- x is one of the k numbers from a on
pub record Among (a k x : ℕ) : Type 0 where
  pub from : a ≤ x
  pub below : x < a + k

-- ---- strings and numbers are inverse
pub number-bits : (n x : ℕ) → Bits n (number_string n x)
unfolding number_string
number-bits n x =
    record {
      long = length-upto n (digit n x);
      each = λ i l. rw (get_d_upto n (digit n x) i 0 l) (digit-le n x i);
    }

pub string_of_number : (n x : ℕ) → x < 2 ^ n → string_number n (number_string n x) ≡ x
unfolding string_number number_string
string_of_number n x h =
    number_shift (λ i. get_or (upto n (digit n x)) i 0) (digit n x) 0 0 n (λ i l. get_d_upto n (digit n x) (0 + i) 0 (omega arith)) ∙
    number-digit n x h

pub number_of_string : (n : ℕ) (s : List ℕ) → Bits n s → number_string n (string_number n s) ≡ s
unfolding string_number number_string
number_of_string n s b =
    let x : ℕ = number (λ i. get_or s i 0) 0 n in
    ext_get_or 0 (upto n (digit n x)) s (length-upto n (digit n x) ∙ sym b.long)
    (λ i l.
    let h : i < n = omega (arith, length-upto n (digit n x)) in
    get_d_upto n (digit n x) i 0 h ∙
    (digit-number (λ i. get_or s i 0) 0 n i (λ j a c. b.each j (omega arith)) h ∙ ap (λ (k : ℕ). get_or s k 0) (zero-add i)))

pub string-lt : (n : ℕ) (s : List ℕ) → Bits n s → string_number n s < 2 ^ n
unfolding string_number
string-lt n s b = number_lt (λ i. get_or s i 0) 0 n (λ i a c. b.each i (omega arith))

-- ---- bit by bit
pub string-none : (s : List ℕ) → string_number 0 s ≡ 0
unfolding string_number number
string-none s = omega arith

pub string_more : (k : ℕ) (s : List ℕ) → string_number (suc k) s ≡ 2 * string_number k s + get_or s k 0
unfolding string_number
string_more k s = rw (add-one k, zero-add k) at (number_more (λ i. get_or s i 0) 0 k)

-- ---- the first k bits, by themselves
module _ (k n : ℕ) (s : List ℕ) (h : k ≤ n) (b : Bits n s) where
  pub take-bits : Bits k (take k s)
  take-bits =
      record {
        long = length-take-le k s (omega (arith, b.long));
        each = λ i l. rw (get_or-take k s i 0 l) (b.each i (omega arith));
      }

  pub take-number : string_number k (take k s) ≡ string_number k s
  unfolding string_number
  take-number = number_shift (λ i. get_or (take k s) i 0) (λ i. get_or s i 0) 0 0 k (λ i l. get_or-take k s (0 + i) 0 (omega arith))

-- ---- the first k of k + j bits are x exactly where the number is one of the 2^j from x * 2^j on
module _ (k j : ℕ) (s : List ℕ) (b : Bits (k + j) s) where
  behind : ℕ
  behind = number (λ i. get_or s i 0) (0 + k) j

  behind-lt : behind < 2 ^ j
  unfolding behind
  behind-lt = number_lt (λ i. get_or s i 0) (0 + k) j (λ i a c. b.each i (omega arith))

  split : string_number (k + j) s ≡ string_number k s * 2 ^ j + behind
  unfolding string_number behind
  split = number-split (λ i. get_or s i 0) 0 k j

  pub front_iff : (x : ℕ) → (string_number k s ≡ x) ↔ Among (x * 2 ^ j) (2 ^ j) (string_number (k + j) s)
  front_iff x = (into, only)
    where
      into : string_number k s ≡ x → Among (x * 2 ^ j) (2 ^ j) (string_number (k + j) s)
      into e =
          let y = ap (λ (y : ℕ). y * 2 ^ j) e in
          record { from = omega (arith, split, y); below = omega (arith, split, behind-lt, y) }

      only : Among (x * 2 ^ j) (2 ^ j) (string_number (k + j) s) → string_number k s ≡ x
      only i =
          sym (high (string_number k s) j behind-lt) ∙
          (ap (λ (y : ℕ). y / 2 ^ j) (sym split) ∙
          div-eq_of_lt-le {k = x} (2 ^ j) {m = string_number (k + j) s} i.from (omega (arith, i.below)))
