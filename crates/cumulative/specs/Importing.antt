-- Import: the ways through its checks, and what is imported, an accepted matrix whose rows are the differences. Assumes nothing.
use Rattle.std.specs.Prelude.{ℕ, ◌+◌, ◌-◌, ◌/◌, ◌%◌, ◌^◌, ◌≤◌, ◌<◌, ◌≡◌, true, false, List, ◌↔◌, ltb, length}
use Rattle.std.proofs.Math.Path.{sym, ap}
use Rattle.std.specs.Int.Bits.{bit_and}
use Rattle.std.proofs.Common.{◌∙◌, arith}
use borrow.Author.Tests.{le-ltb, ltb-false}
use Rattle.laws.specs.Sums.{sum-eq}
use Rattle.laws.specs.Digits.{digit, digit-le, and_one}
use Rattle.laws.specs.Lists.{blocks}
use Rattle.laws.specs.Lay.{lay_at}
use Rattle.laws.specs.Outcome.{refused, gives, mapped, passed, then-gives, gives_inj}
use Rattle.fields.specs.Limits.{most_columns, inside}
use Rattle.fields.specs.Fields.{Taken, packed}
use Rattle.files.specs.Matrix.{Matrix, Accepted, sizes_outside, bit, p, total, most_rows}
use Rattle.files.specs.Files.{file_length, matrix_file, matrix_of, write_header_of}
use Rattle.files.specs.Matrices.{tabled_whole, tabled_bit, tabled_bits, numbered_row}
use Rattle.files.specs.Writing.{with_header, Head, Wrote, ends_unheaded, ends_headed}
use Rattle.files.specs.RoundTrip.{write_read}
use Rattle.cumulative.specs.Tables.{sizes_unfit, entry, rows_of, last_of, difference, numbers_of, imported, import_of}
use Rattle.cumulative.specs.Taken.{Cumulative, summed, sized, taken_iff}

-- ---- bits of a number, from bit `left` - 1 down
pub digit_taken : (left x b left' : ℕ) → left' ≡ left - 1 → b ≡ bit_and (x / 2 ^ left') 1 → Taken (digit left x) b (digit left' x)
unfolding digit
digit_taken left x b left' e q =
    let is : b ≡ x / 2 ^ left' % 2 = q ∙ and_one (x / 2 ^ left') in
    record {
      small = omega (arith, is);
      first =
          let place : left' ≡ left - 1 - 0 = omega arith in
          is ∙ ap (λ (k : ℕ). x / 2 ^ k % 2) place;
      rest =
          λ i.
          let place : left' - 1 - i ≡ left - 1 - (i + 1) = omega arith in
          ap (λ (k : ℕ). x / 2 ^ k % 2) place;
    }

-- ---- what is imported
module _ (T : List ℕ) (n : ℕ) where
  pub imported_bit : (v c : ℕ) → v < rows_of T → c < n → bit (imported T n) v c ≡ digit n (difference T v) c
  unfolding imported
  imported_bit = tabled_bit (rows_of T) n (λ v. digit n (difference T v))

  module _ (ok : Cumulative T n) where
    -- row v, as a number, is the difference of neighbours
    pub imported_row : (v : ℕ) → v < rows_of T → p (imported T n) v ≡ difference T v
    unfolding imported
    imported_row v h = numbered_row (rows_of T) n (difference T) v h (ok.fits v h)

    -- the sum of the rows is the last number
    pub imported_total : total (imported T n) ≡ last_of T
    unfolding total imported
    imported_total =
        sum-eq (rows_of T) (p (imported T n)) (difference T) imported_row ∙
        omega (arith, summed T ok.rises (rows_of T) (omega arith), ok.first)

    pub imported_accepted : Accepted (imported T n)
    unfolding imported
    imported_accepted =
        record {
          some_rows = omega (arith, ok.sizes.some);
          few_rows = omega (arith, ok.sizes.few);
          some_columns = ok.sizes.some_bits;
          few_columns = omega (arith, ok.sizes.few_bits);
          whole = tabled_whole (rows_of T) n (λ v. digit n (difference T v));
          bits = tabled_bits (rows_of T) n (λ v. digit n (difference T v)) (λ v. digit-le n (difference T v));
          sum = omega (arith, imported_total, ok.last);
        }

-- ---- the checks
module _ (T : List ℕ) (n room : ℕ) where
  pub import_sizes : sizes_unfit (length T) n ≡ true → import_of T n room ≡ refused 3
  unfolding import_of
  import_sizes a = rw a

  -- sizes that fit a table are those of a matrix
  inner : sizes_unfit (length T) n ≡ false → sizes_outside (rows_of T) n ≡ false
  inner a =
      let s = sized T n a in
      rw (inside most_rows (rows_of T) (omega (arith, s.some)) (omega (arith, s.few)))
      (inside most_columns n s.some_bits (omega (arith, s.few_bits)))

  module _ (a : sizes_unfit (length T) n ≡ false) where
    pub import_numbers : (k : ℕ) → refused k ≡ numbers_of T n → import_of T n room ≡ refused k
    unfolding import_of
    import_numbers k e = rw (a, ← e)

    -- with the header's check for the last
    passes : gives tt ≡ numbers_of T n → import_of T n room ≡ mapped (λ h. matrix_file (imported T n)) (write_header_of (rows_of T) n room)
    unfolding import_of
    passes e = rw (a, ← e) (with_header (rows_of T) n room (matrix_file (imported T n)) (inner a))

-- the last step, past the checks
module _ (T : List ℕ) (n : ℕ) (file : List ℕ) (a : sizes_unfit (length T) n ≡ false) (e : gives tt ≡ numbers_of T n) where
  pub import_unheaded : (k : ℕ) (now : List ℕ) → Head (rows_of T) n file (refused k) now →
      Wrote (import_of T n (length file)) file (refused k) now
  unfolding imported
  import_unheaded = ends_unheaded (imported T n) (import_of T n (length file)) file (passes T n (length file) a e)

  pub import_headed : (len : ℕ) (now now' : List ℕ) → Head (rows_of T) n file (gives len) now →
      now' ≡ lay_at 8 (blocks (rows_of T) (λ v. packed n (digit n (difference T v)))) now →
      Wrote (import_of T n (length file)) file (gives len) now'
  unfolding imported
  import_headed len now now' h r =
      ends_headed (imported T n) (import_of T n (length file)) file (passes T n (length file) a e) (λ v. digit n (difference T v)) len now
      now' (λ v c k l. sym (imported_bit T n v c k l)) h r

-- ---- import takes exactly the cumulative tables, where their file has room
module _ (T : List ℕ) (n room : ℕ) (file : List ℕ) where
  import_says : import_of T n room ≡ gives file → Cumulative T n × (file_length (rows_of T) n ≤ room) × (matrix_file (imported T n) ≡ file)
  unfolding import_of
  import_says e =
      let c3 = passed 3 (sizes_unfit (length T) n) _ file e in
      let c15 = then-gives (numbers_of T n) _ file c3.1 in
      let c13 = passed 13 (ltb room (file_length (rows_of T) n)) _ file c15.1 in
      ((taken_iff T n).0 (c3.0, c15.0), ltb-false _ _ c13.0, gives_inj c13.1)

  pub import_iff : (import_of T n room ≡ gives file) ↔
      (Cumulative T n × (file_length (rows_of T) n ≤ room) × (matrix_file (imported T n) ≡ file))
  unfolding import_of
  import_iff = (
    import_says,
    (λ p. let t = (taken_iff T n).1 p.0 in rw (t.0, t.1, le-ltb room (file_length (rows_of T) n) p.1, p.2)),
  )

  -- and what it writes is an accepted file, that of the matrix of the differences
  pub import_is : import_of T n room ≡ gives file → matrix_of file ≡ gives (imported T n)
  import_is e =
      let s = import_says e in
      rw (← s.2) (write_read (imported T n) (imported_accepted T n s.0))

  -- of which row v, as a number, takes number v to the next
  pub import_row : (v : ℕ) → import_of T n room ≡ gives file → (M : Matrix) → matrix_of file ≡ gives M → v < rows_of T →
      entry T v + p M v ≡ entry T (v + 1)
  unfolding difference
  import_row v e M q h =
      let ok = (import_says e).0 in
      let same : imported T n ≡ M = gives_inj (sym (import_is e) ∙ q) in
      let row : p M v ≡ difference T v = rw (← same) (imported_row T n ok v h) in
      omega (arith, row, ok.rises.next v h)
