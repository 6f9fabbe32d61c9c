-- 01, "Files": 16-bit fields, lowest byte first, and bits packed into bytes, the first in the highest bit. Assumes nothing.
use Prim.Native.Nat.{ℕ, suc, ◌+◌, ◌-◌, ◌*◌, ◌/◌, ◌%◌, ◌^◌, ◌≤◌, ◌<◌}
use Rattle.std.specs.Prelude.{◌≡◌, Bool, false, not, cond, List, [], ◌∷◌, eqb, ltb, length, get_or, take, set, min}
use Rattle.std.proofs.Common.{ap, sym, ◌∙◌, subst, ⊎_elim, lt-ltb, le-ltb, eq-eqb, eqb-true, length-set, pow_pos, pow_mono, add-one}
use Rattle.std.proofs.Common.{shl_exact, get_or-take}
use Rattle.std.proofs.Math.Nat.{zero-div, one-mul, pow-succ'}
use Rattle.std.proofs.lemmas.Bool.{not-false}
use native.Mathlib.Omega.{arith}
use Rattle.std.specs.Int.Bits.{bit_and, and_mask}
use Rattle.std.proofs.Math.ListN.{get_or-eq_default}
use Rattle.laws.specs.Tests.{lt-or_ge}
use Rattle.laws.specs.Digits.{number, digit, digit-le, number_more, number_shift, number-zero, zero_digits}
use Rattle.laws.proofs.Digits.{digit-number, low_digits}
use Rattle.laws.specs.Lists.{blocks, upto, upto-eq, get_d_blocks, get_d_upto, length-upto}
use Rattle.laws.specs.Lay.{lay_at, lay_at-after, set_is}

-- the 16-bit field at place `at`; what lies beyond the end is 0
unfoldable pub field_of : List ℕ → ℕ → ℕ
field_of bytes at = get_or bytes at 0 + 256 * get_or bytes (at + 1) 0

-- the two bytes of a field
abbrev pub field_bytes : ℕ → List ℕ
field_bytes x = x % 256 ∷ x / 256 ∷ []

-- the bytes with field x at place `at`, where there is room for it; otherwise as they were
unfoldable pub stored : List ℕ → ℕ → ℕ → List ℕ
stored bytes at x = cond (ltb (length bytes) (at + 2)) bytes (lay_at at (field_bytes x) bytes)

-- the bytes that n bits take: n / 8, rounded up
abbrev pub width : ℕ → ℕ
width n = (n + 7) / 8

-- bit i of bits that are packed `per` to a byte from byte `at` on, bit 0 the highest of its byte; what lies beyond the end is 0
unfoldable pub packed_bit : ℕ → List ℕ → ℕ → ℕ → ℕ
packed_bit per bytes at i = digit per (get_or bytes (at + i / per) 0) (i % per)

-- bit i of a packed row or string that begins at byte `at`
abbrev pub bit_of : List ℕ → ℕ → ℕ → ℕ
bit_of bytes at i = packed_bit 8 bytes at i

-- f below n, and 0 from there on
unfoldable pub padded : ℕ → (ℕ → ℕ) → ℕ → ℕ
padded n f i = cond (ltb i n) (f i) 0

-- the bits f 0, .., f (n - 1) in width n bytes, the spare low bits of the last 0
unfoldable pub packed : ℕ → (ℕ → ℕ) → List ℕ
packed n f = upto (width n) (λ q. number (padded n f) (8 * q) 8)

-- a source of bits, b taken from it: it was the first, and the others follow
pub record Taken (source : ℕ → ℕ) (b : ℕ) (after : ℕ → ℕ) : Type 0 where
  pub small : b ≤ 1
  pub first : b ≡ source 0
  pub rest : (i : ℕ) → after i ≡ source (i + 1)

-- the same of bit t of `left`; from there on b is 0, and none is taken
pub record Padded (left : ℕ) (source : ℕ → ℕ) (t b : ℕ) (after : ℕ → ℕ) : Type 0 where
  pub small : b ≤ 1
  pub below : t < left → (b ≡ source 0) × ((i : ℕ) → after i ≡ source (i + 1))
  pub beyond : left ≤ t → (b ≡ 0) × ((i : ℕ) → after i ≡ source i)

-- the same of a byte of 8 bits
pub record PackedByte (left : ℕ) (source : ℕ → ℕ) (byte : ℕ) (after : ℕ → ℕ) : Type 0 where
  pub is : byte ≡ number (padded left source) 0 8
  pub rest : (i : ℕ) → after i ≡ source (min 8 left + i)

-- whether a spare bit is set behind the n packed bits that begin at byte `at`: a bit from n on in the last of their bytes
unfoldable pub spare : List ℕ → ℕ → ℕ → Bool
spare bytes n at = not (eqb (number (bit_of bytes at) n (8 * width n - n)) 0)

-- ---- fields
module _ (bytes : List ℕ) (at : ℕ) where
  pub field-small : get_or bytes at 0 < 256 → get_or bytes (at + 1) 0 < 256 → field_of bytes at < 65536
  unfolding field_of
  field-small a b = omega arith

  pub field_beyond : length bytes ≤ at → 0 ≡ field_of bytes at
  unfolding field_of
  field_beyond h = rw (get_or-eq_default bytes 0 {n = at} h, get_or-eq_default bytes 0 {n = at + 1} (omega arith))

  pub field-laid : (a b : ℕ) → at + 2 ≤ length bytes → set (set bytes at a) (at + 1) b ≡ lay_at at (a ∷ b ∷ []) bytes
  field-laid a b h =
      set_is (at + 1) b (set bytes at a) (rw (length-set bytes at a) (omega arith)) ∙
      (ap (lay_at (at + 1) (b ∷ [])) (set_is at a bytes (omega arith)) ∙ lay_at-after at (a ∷ []) (b ∷ []) bytes (omega arith))

  pub stored_at : (x : ℕ) → at + 2 ≤ length bytes → stored bytes at x ≡ lay_at at (field_bytes x) bytes
  unfolding stored
  stored_at x h = rw (le-ltb (length bytes) (at + 2) h)

  pub stored-none : (x : ℕ) → length bytes < at + 2 → bytes ≡ stored bytes at x
  unfolding stored
  stored-none x h = rw (lt-ltb (length bytes) (at + 2) h)

  -- ---- bits
  pub bit_beyond : (i : ℕ) → length bytes ≤ at + i / 8 → 0 ≡ bit_of bytes at i
  unfolding packed_bit digit
  bit_beyond i h = rw (get_or-eq_default bytes 0 {n = at + i / 8} h, zero-div)

  pub bit_read : (i : ℕ) → bit_and (get_or bytes (at + i / 8) 0 / 2 ^ (7 - i % 8)) 1 ≡ bit_of bytes at i
  unfolding packed_bit digit
  bit_read i = and_mask (get_or bytes (at + i / 8) 0 / 2 ^ (7 - i % 8)) 1

-- a field that lies in the front of some bytes is that front's
pub field-front : (n : ℕ) (bytes : List ℕ) (at : ℕ) → at + 1 < n → field_of (take n bytes) at ≡ field_of bytes at
unfolding field_of
field-front n bytes at h = rw (get_or-take n bytes at 0 (omega arith), get_or-take n bytes (at + 1) 0 h)

pub bit_le : (per : ℕ) (bytes : List ℕ) (at i : ℕ) → packed_bit per bytes at i ≤ 1
unfolding packed_bit
bit_le per bytes at i = digit-le per (get_or bytes (at + i / per) 0) (i % per)

-- ---- spare bits
module _ (bytes : List ℕ) (n at : ℕ) where
  -- they are the low bits of the last byte
  spare-bits : 0 < n → number (bit_of bytes at) n (8 * width n - n) ≡ get_or bytes (at + width n - 1) 0 % 2 ^ (8 * width n - n)
  unfolding packed_bit
  spare-bits h =
      let s : ℕ = 8 * width n - n in
      number_shift (bit_of bytes at) (digit 8 (get_or bytes (at + width n - 1) 0)) n (8 - s) s
      (λ i l. let place : at + (n + i) / 8 ≡ at + width n - 1 = omega arith in
      let bit : (n + i) % 8 ≡ 8 - s + i = omega arith in
      rw (place, bit)) ∙
      low_digits 8 (get_or bytes (at + width n - 1) 0) s (8 - s) (omega arith)

  pub spare_read : 0 < n →
      not (eqb (get_or bytes (at + width n - 1) 0 % ((1 * 2 ^ (8 * width n - n)) % 2 ^ 64)) 0) ≡ spare bytes n at
  unfolding spare
  spare_read h =
      rw (shl_exact {a = 1} 1 (8 * width n - n) 64 (omega arith) (omega arith), one-mul (2 ^ (8 * width n - n)), spare-bits h)

  -- none is set exactly when each of them is 0
  pub spare-none : ((i : ℕ) → n ≤ i → i < 8 * width n → bit_of bytes at i ≡ 0) → spare bytes n at ≡ false
  unfolding spare
  spare-none z =
      let none = number-zero (bit_of bytes at) n (8 * width n - n) (λ i l. z (n + i) (omega arith) (omega arith)) in
      rw (eq-eqb (number (bit_of bytes at) n (8 * width n - n)) 0 none)

  pub spare-zero : spare bytes n at ≡ false → (i : ℕ) → n ≤ i → i < 8 * width n → bit_of bytes at i ≡ 0
  unfolding spare
  spare-zero e i a b =
      zero_digits (bit_of bytes at) n (8 * width n - n) (λ j k l. bit_le 8 bytes at j) (eqb-true _ _ (not-false _ e)) i a (omega arith)

pub divisor : (n : ℕ) → 0 < (1 * 2 ^ (8 * width n - n)) % 2 ^ 64
divisor n = rw (shl_exact {a = 1} 1 (8 * width n - n) 64 (omega arith) (omega arith)) (omega (arith, pow_pos (8 * width n - n)))

-- ---- padding
module _ (n : ℕ) (f : ℕ → ℕ) (i : ℕ) where
  pub padded-below : i < n → f i ≡ padded n f i
  unfolding padded
  padded-below h = rw (lt-ltb i n h)

  pub padded-above : n ≤ i → 0 ≡ padded n f i
  unfolding padded
  padded-above h = rw (le-ltb i n h)

-- a fact of every padded place: those below n, and 0 above
pub padded-both : (P : ℕ → Type 0) (n : ℕ) (f : ℕ → ℕ) (i : ℕ) → (i < n → P (f i)) → (n ≤ i → P 0) → P (padded n f i)
padded-both P n f i b a =
    ⊎_elim (λ (h : i < n). subst P (padded-below n f i h) (b h)) (λ (h : n ≤ i). subst P (padded-above n f i h) (a h)) (lt-or_ge i n)

pub padded-le : (n : ℕ) (f : ℕ → ℕ) (i : ℕ) → ((i : ℕ) → i < n → f i ≤ 1) → padded n f i ≤ 1
padded-le n f i ok = padded-both (λ (x : ℕ). x ≤ 1) n f i (ok i) (λ h. omega arith)

-- packed bits depend on the n bits alone
pub packed-eq : (n : ℕ) (f g : ℕ → ℕ) → ((i : ℕ) → i < n → f i ≡ g i) → packed n f ≡ packed n g
unfolding packed
packed-eq n f g e =
    upto-eq (width n) (λ q. number (padded n f) (8 * q) 8) (λ q. number (padded n g) (8 * q) 8)
    (λ q l. number_shift (padded n f) (padded n g) (8 * q) (8 * q) 8 (λ i k. same (8 * q + i)))
  where
    same : (i : ℕ) → padded n f i ≡ padded n g i
    same i = padded-both (λ (x : ℕ). x ≡ padded n g i) n f i (λ h. e i h ∙ padded-below n g i h) (λ h. padded-above n g i h)

pub length-packed : (n : ℕ) (f : ℕ → ℕ) → length (packed n f) ≡ width n
unfolding packed
length-packed n f = length-upto (width n) (λ q. number (padded n f) (8 * q) 8)

-- ---- bits of a source, packed byte by byte
-- bit t is taken, or there are no more
module _ (left : ℕ) (f source : ℕ → ℕ) (t b : ℕ) (after : ℕ → ℕ) (p : Padded left source t b after)
    (at : (i : ℕ) → source i ≡ f (min t left + i)) where
  pub bit-next : b ≡ padded left f (0 + t)
  bit-next =
      let same : t ≡ 0 + t = omega arith in
      rw (← same)
      (⊎_elim
      (λ (h : t < left).
      let place : min t left + 0 ≡ t = omega arith in
      (p.below h).0 ∙ (at 0 ∙ ap f place) ∙ padded-below left f t h)
      (λ (h : left ≤ t). (p.beyond h).0 ∙ padded-above left f t h)
      (lt-or_ge t left))

  pub bits_on : (i : ℕ) → after i ≡ f (min (t + 1) left + i)
  bits_on i =
      ⊎_elim
      (λ (h : t < left).
      let place : min t left + (i + 1) ≡ min (t + 1) left + i = omega arith in
      (p.below h).1 i ∙ (at (i + 1) ∙ ap f place))
      (λ (h : left ≤ t).
      let place : min t left + i ≡ min (t + 1) left + i = omega arith in
      (p.beyond h).1 i ∙ (at i ∙ ap f place))
      (lt-or_ge t left)

-- or one of 8 is taken
module _ (f source : ℕ → ℕ) (t b : ℕ) (after : ℕ → ℕ) (p : Taken source b after) (at : (i : ℕ) → source i ≡ f (t + i)) where
  pub taken-next : b ≡ f (0 + t)
  taken-next =
      let place : t + 0 ≡ 0 + t = omega arith in
      p.first ∙ (at 0 ∙ ap f place)

  pub taken_on : (i : ℕ) → after i ≡ f (t + 1 + i)
  taken_on i =
      let place : t + (i + 1) ≡ t + 1 + i = omega arith in
      p.rest i ∙ (at (i + 1) ∙ ap f place)

-- 8 taken are a byte, of 8 bits or more
pub byte_taken : (f source : ℕ → ℕ) (byte left : ℕ) → byte ≡ number f 0 8 → ((i : ℕ) → source i ≡ f (8 + i)) → 8 ≤ left →
    PackedByte left f byte source
byte_taken f source byte left e at h =
    record {
      is = e ∙ number_shift f (padded left f) 0 0 8 (λ i l. padded-below left f (0 + i) (omega arith));
      rest =
          λ i.
          let place : 8 + i ≡ min 8 left + i = omega arith in
          at i ∙ ap f place;
    }

-- byte q is packed of what is left of n bits
module _ (n : ℕ) (f source : ℕ → ℕ) (q left byte : ℕ) (after : ℕ → ℕ) (p : PackedByte left source byte after)
    (few : left ≡ n - 8 * q) (at : (i : ℕ) → source i ≡ f (min (8 * q) n + i)) where
  same : (i : ℕ) → padded left source (0 + i) ≡ padded n f (8 * q + i)
  same i =
      padded-both (λ (x : ℕ). x ≡ padded n f (8 * q + i)) left source (0 + i)
      (λ h.
      let place : min (8 * q) n + (0 + i) ≡ 8 * q + i = omega arith in
      at (0 + i) ∙ ap f place ∙ padded-below n f (8 * q + i) (omega arith))
      (λ h. padded-above n f (8 * q + i) (omega arith))

  pub byte-next : byte ≡ number (padded n f) (8 * q) 8
  byte-next = p.is ∙ number_shift (padded left source) (padded n f) 0 (8 * q) 8 (λ i l. same i)

  pub bytes_on : (i : ℕ) → after i ≡ f (min (8 * (q + 1)) n + i)
  bytes_on i =
      let place : min (8 * q) n + (min 8 left + i) ≡ min (8 * (q + 1)) n + i = omega arith in
      p.rest i ∙ (at (min 8 left + i) ∙ ap f place)

-- as many bytes as n bits take hold them packed
pub packed_whole : (n w : ℕ) (f : ℕ → ℕ) → w ≡ width n → upto w (λ q. number (padded n f) (8 * q) 8) ≡ packed n f
unfolding packed
packed_whole n w f e = ap (λ (k : ℕ). upto k (λ q. number (padded n f) (8 * q) 8)) e

-- ---- packed rows, bit by bit
-- bit i of packed row v: the row's bit below n, and 0 in the spare bits
pub packed-bit : (n : ℕ) (f : ℕ → ℕ → ℕ) (m v i : ℕ) → ((c : ℕ) → c < n → f v c ≤ 1) → v < m → i < 8 * width n →
    bit_of (blocks m (λ v. packed n (f v))) (v * width n) i ≡ padded n (f v) i
unfolding packed_bit packed
packed-bit n f m v i ok h l =
    let place : 8 * (i / 8) + i % 8 ≡ i = omega arith in
    ap (λ (x : ℕ). digit 8 x (i % 8))
    (get_d_blocks (width n) (λ v. packed n (f v)) (λ v. length-packed n (f v)) m v (i / 8) 0 h (omega arith) ∙
    get_d_upto (width n) (λ q. number (padded n (f v)) (8 * q) 8) (i / 8) 0 (omega arith)) ∙
    (digit-number (padded n (f v)) (8 * (i / 8)) 8 (i % 8) (λ j a b. padded-le n (f v) j ok) (omega arith) ∙ ap (padded n (f v)) place)
