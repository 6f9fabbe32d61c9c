-- Slicing in blocks of 64 columns: 8 bytes of each string are a row of a table, and the transposed table's rows are words. Assumes nothing.
use Rattle.std.specs.Prelude.{ℕ, ◌+◌, ◌-◌, ◌*◌, ◌/◌, ◌%◌, ◌^◌, min, ◌≤◌, ◌<◌, ◌≡◌, refl, length, take, drop}
use Rattle.std.proofs.Math.Path.{ap}
use Rattle.std.proofs.Common.{◌∙◌, ⊎_elim, zero-add, pow_mono, shl_exact, length-take, length-drop, get_or-take, get_or-drop}
use mathlib.Core.List.{List}
use native.Mathlib.Omega.{arith}
use Rattle.std.specs.Int.Bits.{bit_or}
use Rattle.std.proofs.lemmas.Nat.{or_shifted}
use Rattle.std.proofs.Math.ListN.{get_or, get_or-eq_default}
use Rattle.laws.specs.Tests.{lt-or_ge}
use Rattle.laws.specs.Digits.{number, digit, Spelt, number-split, number_shift, number_lt}
use Rattle.laws.proofs.Digits.{number-digit, digit-number}
use Rattle.laws.specs.Words.{bit_at, pack-eq}
use Rattle.laws.specs.Lists.{row-end, upto, length-upto, get_d_upto}
use Rattle.laws.specs.Lay.{lay_at, Laid, upto-none, laid_more}
use Rattle.fields.specs.Fields.{bit_of, packed_bit, bit_le, width}
use Rattle.lanes.specs.Transposing.{side, transposed, transposed-row, Table}
use Rattle.lanes.specs.Slicing.{lanes, word_of}

-- row j of block q: m bytes of string j from its byte 8 q on, as a number with the first bit highest
abbrev pub row_of : List ℕ → ℕ → ℕ → ℕ → ℕ → ℕ
row_of s w q m j = number (bit_of s (j * w + 8 * q)) 0 (8 * m)

-- the m bytes from `at` on, as a loop over them has them: how many they are, and each of them
pub bytes-long : (s : List ℕ) (at m : ℕ) → at + m ≤ length s → length (take (at + m - at) (drop at s)) ≡ m
bytes-long s at m h = simp (length-take, length-drop) (omega arith)

pub bytes_are : (s : List ℕ) (at m b : ℕ) → b < m → get_or (take (at + m - at) (drop at s)) b 0 ≡ get_or s (at + b) 0
bytes_are s at m b h =
    let long : at + m - at ≡ m = omega arith in
    rw long (get_or-take m (drop at s) b 0 h ∙ get_or-drop at s b 0)

-- ---- one row, byte by byte
module _ (s : List ℕ) (at : ℕ) where
  byte_digits : (b : ℕ) → get_or s (at + b) 0 < 256 → number (bit_of s at) (8 * b) 8 ≡ get_or s (at + b) 0
  unfolding packed_bit
  byte_digits b h =
      number_shift (bit_of s at) (digit 8 (get_or s (at + b) 0)) (8 * b) 0 8
      (λ i l. let place : at + (8 * b + i) / 8 ≡ at + b = omega arith in
      let bit : (8 * b + i) % 8 ≡ 0 + i = omega arith in
      rw (place, bit)) ∙
      number-digit 8 (get_or s (at + b) 0) h

  -- one turn, `x = (x << 8) | byte`
  pub byte_more : (b x : ℕ) → b < 8 → get_or s (at + b) 0 < 256 → Spelt (bit_of s at) 0 (8 * b) x →
      Spelt (bit_of s at) 0 (8 * (b + 1)) (bit_or ((x * 2 ^ 8) % 2 ^ 64) (get_or s (at + b) 0))
  byte_more b x h l p =
      let y : ℕ = get_or s (at + b) 0 in
      let turn : bit_or ((x * 2 ^ 8) % 2 ^ 64) y ≡ x * 2 ^ 8 + y =
      rw (shl_exact {a = x} (8 * b) 8 64 p.small (omega arith)) (or_shifted x 8 y l) in
      let on : 8 * (b + 1) ≡ 8 * b + 8 = omega arith in
      let byte : number (bit_of s at) (0 + 8 * b) 8 ≡ y = rw (zero-add (8 * b)) (byte_digits b l) in
      let is : x * 2 ^ 8 + y ≡ number (bit_of s at) 0 (8 * b + 8) = rw (number-split (bit_of s at) 0 (8 * b) 8, byte, p.is) in
      rw (turn, on) (record { is = is; small = rw is (number_lt (bit_of s at) 0 (8 * b + 8) (λ i u v. bit_le 8 s at i)) })

-- ---- the rows of a block
-- where the bytes of string j lie
pub row_in : (w q m j size : ℕ) → 8 * q + m ≤ w → lanes * w ≤ size → j < lanes → j * w + 8 * q + m ≤ size
row_in w q m j size b l h = omega (arith, row-end {v = j} {m = lanes} {size = size} w w h refl l)

module _ (s : List ℕ) (w q m : ℕ) where
  row_lt : (j : ℕ) → m ≤ 8 → row_of s w q m j < 2 ^ 64
  row_lt j h =
      omega (
        arith,
        number_lt (bit_of s (j * w + 8 * q)) 0 (8 * m) (λ i a b. bit_le 8 s (j * w + 8 * q) i),
        pow_mono {i = 8 * m} {j = 64} (omega arith),
      )

  pub rows-table : m ≤ 8 → Table (upto side (row_of s w q m))
  rows-table h =
      record {
        long = length-upto side (row_of s w q m);
        words = λ r.
            ⊎_elim (λ (l : r < side). rw (get_d_upto side (row_of s w q m) r 0 l) (row_lt r h))
            (λ (l : side ≤ r).
            rw (get_or-eq_default (upto side (row_of s w q m)) 0 {n = r} (omega (arith, length-upto side (row_of s w q m)))) (omega arith))
            (lt-or_ge r side);
      }

  -- bit i of the row, counted from its first, is bit 64 q + i of the string
  row-bit : (i j : ℕ) → i < 8 * m → bit_at (row_of s w q m j) (8 * m - 1 - i) ≡ bit_of s (j * w) (64 * q + i)
  unfolding bit_at digit packed_bit
  row-bit i j l =
      let place : j * w + 8 * q + (0 + i) / 8 ≡ j * w + (64 * q + i) / 8 = omega arith in
      let bit : (0 + i) % 8 ≡ (64 * q + i) % 8 = omega arith in
      digit-number (bit_of s (j * w + 8 * q)) 0 (8 * m) i (λ i u v. bit_le 8 s (j * w + 8 * q) i) l ∙ rw (place, bit)

  -- transposed, the rows are words, the last first
  pub block_word : (i : ℕ) (rows : List ℕ) → m ≤ 8 → i < 8 * m → rows ≡ transposed (upto side (row_of s w q m)) →
      get_or rows (8 * m - 1 - i) 0 ≡ word_of s w (64 * q + i)
  unfolding word_of
  block_word i rows h l e =
      ap (λ (r : List ℕ). get_or r (8 * m - 1 - i) 0) e ∙
      (transposed-row (upto side (row_of s w q m)) (8 * m - 1 - i) (omega arith) ∙
      pack-eq side (λ j. bit_at (get_or (upto side (row_of s w q m)) j 0) (8 * m - 1 - i)) (λ j. bit_of s (j * w) (64 * q + i))
      (λ j b. rw (get_d_upto side (row_of s w q m) j 0 b) (row-bit i j l)))

-- ---- block after block
pub words-none : (n : ℕ) (f : ℕ → ℕ) (buf : List ℕ) → Laid 0 (upto (min (64 * 0) n) f) buf buf
words-none n f buf =
    let none : min (64 * 0) n ≡ 0 = omega arith in
    rw none (upto-none 0 f buf)

module _ (n q : ℕ) (h : 64 * q < n) where
  -- its bytes are eight, or those that are left, and they have its columns
  pub block_bytes : (m : ℕ) → m ≡ min 8 (width n - 8 * q) → (m ≤ 8) × (8 * q + m ≤ width n) × (min side (n - 64 * q) ≤ 8 * m)
  block_bytes m e = (omega arith, omega arith, omega arith)

  pub words-next : (f : ℕ → ℕ) (buf now now' : List ℕ) → n ≤ length buf →
      now' ≡ lay_at (64 * q) (upto (min side (n - 64 * q)) (λ i. f (64 * q + i))) now → Laid 0 (upto (min (64 * q) n) f) buf now →
      Laid 0 (upto (min (64 * (q + 1)) n) f) buf now'
  words-next f buf now now' l e p =
      let before : min (64 * q) n ≡ 64 * q = omega arith in
      let after : min (64 * (q + 1)) n ≡ 64 * q + min side (n - 64 * q) = omega arith in
      rw after (laid_more 0 (64 * q) (64 * q) (min side (n - 64 * q)) f buf now now' (omega arith) (omega arith) e (rw before at p))
