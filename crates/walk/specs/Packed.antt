-- Strings of bits as bytes: a packed string has its bits, and passes the checks of a string that is lent. Assumes nothing.
use Rattle.std.specs.Prelude.{ℕ, ◌+◌, ◌-◌, ◌*◌, ◌/◌, ◌%◌, ◌≤◌, ◌<◌, ◌≡◌, refl, Bool, true, false, ◌||◌, List, ◌++◌, ltb, length}
use Rattle.std.proofs.Common.{sym, ◌∙◌, zero-mul, one-mul, arith, le-ltb, length-append}
use Rattle.std.proofs.Math.Path.{ap}
use Rattle.std.proofs.Math.ListN.{get_or, get_or-append}
use Rattle.std.proofs.Math.Seq.{take_all}
use Rattle.laws.specs.Sums.{any}
use Rattle.laws.specs.Digits.{digit, number_shift}
use Rattle.laws.specs.Lists.{blocks, upto, upto-eq, length-upto, get_d_upto, take-is}
use Rattle.laws.specs.Outcome.{refuse, gives, ◌>>◌}
use Rattle.fields.specs.Fields.{width, packed_bit, bit_of, packed, padded, padded-below, padded-above, length-packed, spare, spare-none}
use Rattle.fields.specs.Limits.{outside, most_columns, inside}
use Rattle.fields.specs.Strings.{strings_under, strings_of}
use Rattle.fields.specs.Fields.{bit_le, packed-bit}
use Rattle.walk.specs.Strings.{Bits}

-- a string of bits, packed as a matrix row
unfoldable pub packed_string : ℕ → List ℕ → List ℕ
packed_string n s = packed n (λ i. get_or s i 0)

-- ---- one string: its checks
pub one_string : (n : ℕ) (bytes : List ℕ) →
    strings_of 1 n bytes ≡ (refuse 3 (outside most_columns n) >> (refuse 13 (ltb (length bytes) (width n)) >> refuse 5 (spare bytes n 0)))
unfolding strings_under any
one_string n bytes = rw (one-mul (width n), zero-mul (width n)) (or-false (spare bytes n 0))
  where
    or-false : (b : Bool) → (refuse 3 (outside most_columns n) >> (refuse 13 (ltb (length bytes) (width n)) >> refuse 5 (b || false))) ≡
        (refuse 3 (outside most_columns n) >> (refuse 13 (ltb (length bytes) (width n)) >> refuse 5 b))
    or-false true = refl
    or-false false = refl

pub string-sound : (n : ℕ) (bytes : List ℕ) → 1 ≤ n → n ≤ most_columns → width n ≤ length bytes → spare bytes n 0 ≡ false →
    strings_of 1 n bytes ≡ gives tt
string-sound n bytes a b l s = rw (one_string n bytes, inside most_columns n a b, le-ltb (length bytes) (width n) l, s)

-- ---- the bits of packed bits
module _ (n : ℕ) (f : ℕ → ℕ) (ok : (i : ℕ) → i < n → f i ≤ 1) where
  bit-padded : (i : ℕ) → i < 8 * width n → bit_of (packed n f) 0 i ≡ padded n f i
  unfolding blocks
  bit-padded i h = rw (zero-mul (width n)) at (packed-bit n (λ v. f) 1 0 i ok (omega arith) h)

  pub string-bit : (i : ℕ) → i < n → bit_of (packed n f) 0 i ≡ f i
  string-bit i h = bit-padded i (omega arith) ∙ sym (padded-below n f i h)

  packed-spare : spare (packed n f) n 0 ≡ false
  packed-spare = spare-none (packed n f) n 0 (λ i a b. bit-padded i b ∙ sym (padded-above n f i a))

  pub packed-sound : 1 ≤ n → n ≤ most_columns → strings_of 1 n (packed n f) ≡ gives tt
  packed-sound a b = string-sound n (packed n f) a b (omega (arith, length-packed n f)) packed-spare

-- ---- a packed string is sound, and its bits are the string's
module _ (n : ℕ) (s : List ℕ) (b : Bits n s) where
  pub packed_string-sound : 1 ≤ n → n ≤ most_columns → strings_of 1 n (packed_string n s) ≡ gives tt
  unfolding packed_string
  packed_string-sound = packed-sound n (λ i. get_or s i 0) b.each

  pub packed_string-bits : upto n (bit_of (packed_string n s) 0) ≡ s
  unfolding packed_string
  packed_string-bits =
      upto-eq n (bit_of (packed n (λ i. get_or s i 0)) 0) (λ i. get_or s i 0) (string-bit n (λ i. get_or s i 0) b.each) ∙
      (sym (take-is 0 n s (omega (arith, b.long))) ∙ take_all n s (omega (arith, b.long)))

-- ---- what is read of any bytes is bits
pub read_bits : (n : ℕ) (bytes : List ℕ) → Bits n (upto n (bit_of bytes 0))
read_bits n bytes =
    record {
      long = length-upto n (bit_of bytes 0);
      each = λ i l. rw (get_d_upto n (bit_of bytes 0) i 0 l) (bit_le 8 bytes 0 i);
    }

-- ---- bytes behind the last one that a string needs do not count
module _ (n : ℕ) (bytes more : List ℕ) (long : width n ≤ length bytes) where
  pub bit-front : (i : ℕ) → i < 8 * width n → bit_of (bytes ++ more) 0 i ≡ bit_of bytes 0 i
  unfolding packed_bit
  bit-front i h = ap (λ (x : ℕ). digit 8 x (i % 8)) (get_or-append bytes more 0 (0 + i / 8) (omega arith))

  pub spare-front : spare (bytes ++ more) n 0 ≡ spare bytes n 0
  unfolding spare
  spare-front =
      rw (number_shift (bit_of (bytes ++ more) 0) (bit_of bytes 0) n n (8 * width n - n) (λ i l. bit-front (n + i) (omega arith)))

  pub string-front : strings_of 1 n (bytes ++ more) ≡ strings_of 1 n bytes
  string-front =
      rw (
        one_string n (bytes ++ more),
        one_string n bytes,
        spare-front,
        length-append bytes more,
        le-ltb (length bytes) (width n) long,
        le-ltb (length bytes + length more) (width n) (omega arith),
      )
