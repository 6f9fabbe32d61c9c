-- Reading and writing are inverse: an accepted file written again is the same bytes, and a written matrix reads as itself. Assumes nothing.
use Prim.Native.Nat.{ℕ, ◌+◌, ◌*◌, ◌/◌, ◌%◌, ◌^◌, ◌≤◌, ◌<◌}
use Rattle.std.specs.Prelude.{◌≡◌, false, ltb, get_or, take, drop}
use Rattle.std.proofs.Math.Path.{refl, sym}
use Rattle.std.proofs.Common.{ap, ◌∙◌, length-drop, take-append-drop, get_or-drop, get_or-take, length-take-le}
use mathlib.Core.List.{List, [], ◌∷◌}
use native.Mathlib.Omega.{arith}
use borrow.Author.Tests.{le-ltb, ltb-false}
use Rattle.std.proofs.Math.ListN.{length}
use Rattle.laws.specs.Sums.{any-all, any_false}
use Rattle.laws.specs.Digits.{number, number_shift, digit}
use Rattle.laws.proofs.Digits.{number-digit}
use Rattle.laws.specs.Lists.{blocks, upto, get_d_blocks, length-blocks, get_d_upto, table_ext, take-is}
use Rattle.laws.specs.Lay.{lay, length-lay, take-lay, at_front}
use Rattle.laws.specs.Outcome.{gives, refuse, ◌>>◌, passed, bound, gives_inj}
use Rattle.fields.specs.Limits.{most_columns, inside, within}
use Rattle.fields.specs.Fields.{field_of, field_bytes, width, bit_of, packed_bit, bit_le, padded, padded-below, padded-above, padded-both}
use Rattle.fields.specs.Fields.{packed, packed-bit, length-packed, spare, spare-none, spare-zero}
use Rattle.fields.specs.Strings.{any_spare}
use Rattle.files.specs.Matrix.{Matrix, sizes, sizes_outside, Accepted, bit, total, most_rows}
use Rattle.files.specs.Files.{file_length, header_bytes, row_bytes, matrix_file, header_of, body_of, matrix_under, matrix_of}
use Rattle.files.specs.Files.{unpacked, read_under, read_of, taken, above_one, write_under, write_of}
use Rattle.files.specs.Matrices.{equal_bits, tabled_whole, tabled_bits}
use Rattle.files.specs.Sizes.{cell}
use Rattle.files.specs.Checks.{Kinded, header-gives, header-says, Read, matrix_read, unpacked_bit, read_room}
use Rattle.files.specs.Writing.{length-file, no_entry-above, head_gives, write_rest}

-- ---- a written matrix reads as itself
-- its entries are bits
pub accepted-bits : (M : Matrix) → Accepted M → (v c : ℕ) → v < M.rows → c < M.columns → bit M v c ≤ 1
unfolding bit
accepted-bits M ok v c h l = ok.bits (v * M.columns + c) (cell h l)

-- and its sizes are within their limits
accepted-sizes : (M : Matrix) → Accepted M → sizes_outside M.rows M.columns ≡ false
accepted-sizes M ok =
    rw (inside most_rows M.rows ok.some_rows ok.few_rows) (inside most_columns M.columns ok.some_columns ok.few_columns)

module _ (M : Matrix) (ok : Accepted M) where
  -- where row v begins
  abbrev at : ℕ → ℕ
  at v = v * width M.columns

  row-bit : (v i : ℕ) → v < M.rows → i < 8 * width M.columns → bit_of (row_bytes M) (at v) i ≡ padded M.columns (bit M v) i
  row-bit v i h l = packed-bit M.columns (bit M) M.rows v i (λ c k. accepted-bits M ok v c h k) h l

  no_spare : any_spare M.rows M.columns (row_bytes M) ≡ false
  no_spare = any-all M.rows (λ v. spare (row_bytes M) M.columns (at v))
      (λ v h. spare-none (row_bytes M) M.columns (at v) (λ i a b. row-bit v i h b ∙ sym (padded-above M.columns (bit M v) i a)))

  same : unpacked (row_bytes M) (sizes M) ≡ M
  unfolding unpacked
  same =
      equal_bits (unpacked (row_bytes M) (sizes M)) M (tabled_whole M.rows M.columns (λ v. bit_of (row_bytes M) (at v))) ok.whole
      refl refl
      (λ v c h l.
      unpacked_bit (row_bytes M) (sizes M) v c h l ∙ (row-bit v c h (omega arith) ∙ sym (padded-below M.columns (bit M v) c l)))

  header-same : header_of (matrix_file M) ≡ gives (sizes M)
  unfolding field_of matrix_file header_bytes
  header-same =
      let long = length-file M in
      let passed : Kinded (matrix_file M) (file_length M.rows M.columns) M.rows M.columns =
      record {
        long = omega arith;
        length_is = omega arith;
        there = omega arith;
        kind_is = refl;
        rows_is = omega arith;
        columns_is = omega arith;
      } in
      sym (header-gives passed (accepted-sizes M ok) refl long)

  body_same : body_of (matrix_file M) (sizes M) ≡ gives M
  unfolding body_of matrix_file header_bytes
  body_same = rw (no_spare, same, le-ltb (2 ^ M.columns) (total M) ok.sum)

  pub write_read : matrix_of (matrix_file M) ≡ gives M
  unfolding matrix_under
  write_read = rw header-same body_same

-- ---- an accepted file written again is the same bytes
-- what is read is an accepted matrix
pub read_accepted : (file : List ℕ) (M : Matrix) → matrix_of file ≡ gives M → Accepted M
unfolding unpacked
read_accepted file M e =
    let r = matrix_read file M e in
    let w = r.sized in
    let entries = ap (λ (X : Matrix). X.entries) r.is in
    let row : ℕ → ℕ → ℕ = λ v. bit_of (drop 8 file) (v * width M.columns) in
    record {
      some_rows = w.some_rows;
      few_rows = w.few_rows;
      some_columns = w.some_columns;
      few_columns = w.few_columns;
      whole = rw entries (tabled_whole M.rows M.columns row);
      bits = rw entries (tabled_bits M.rows M.columns row (λ v. bit_le 8 (drop 8 file) (v * width M.columns)));
      sum = r.sum;
    }

-- the two bytes of a field are those that it is read from
field_back : (file : List ℕ) (at x : ℕ) → get_or file at 0 < 256 → field_of file at ≡ x →
    field_bytes x ≡ get_or file at 0 ∷ get_or file (at + 1) 0 ∷ []
unfolding field_of
field_back file at x h e =
    let low : x % 256 ≡ get_or file at 0 = omega arith in
    let high : x / 256 ≡ get_or file (at + 1) 0 = omega arith in
    rw (low, high)

module _ (file : List ℕ) (bytes : (i : ℕ) → get_or file i 0 < 256) (M : Matrix) (e : matrix_of file ≡ gives M) where
  r : Read file M
  r = matrix_read file M e

  -- the rows, and where row v begins
  abbrev rest : List ℕ
  rest = drop 8 file

  abbrev from : ℕ → ℕ
  from v = v * width M.columns

  header-back : header_bytes M.rows M.columns ≡ take 8 file
  unfolding header_bytes upto blocks
  header-back =
      let f = header-says file (sizes M) r.header in
      let len = field_back file 0 (file_length M.rows M.columns) (bytes 0) f.length_is in
      let kind = field_back file 2 32 (bytes 2) f.kind_is in
      let m = field_back file 4 M.rows (bytes 4) f.rows_is in
      let n = field_back file 6 M.columns (bytes 6) f.columns_is in
      let front = take-is 0 8 file (omega (arith, r.sized.long)) in
      cc

  -- below n the bits are the matrix's, and the spare bits are 0
  bit-back : (v i : ℕ) → v < M.rows → i < 8 * width M.columns → padded M.columns (bit M v) i ≡ bit_of rest (from v) i
  bit-back v i h l =
      let clear = any_false M.rows v (λ v. spare rest M.columns (from v)) r.no_spare h in
      padded-both (λ (x : ℕ). x ≡ bit_of rest (from v) i) M.columns (bit M v) i
      (λ k. ap (λ (X : Matrix). bit X v i) r.is ∙ unpacked_bit rest (sizes M) v i h k)
      (λ k. sym (spare-zero rest M.columns (from v) clear i k l))

  place : (v q i : ℕ) → i < 8 → bit_of rest (from v) (8 * q + i) ≡ digit 8 (get_or rest (from v + q) 0) (0 + i)
  unfolding packed_bit
  place v q i k =
      let a : (8 * q + i) / 8 ≡ q = omega arith in
      let b : (8 * q + i) % 8 ≡ 0 + i = omega arith in
      rw (a, b)

  -- each byte of a row is the number of its eight bits
  byte_back : (v q : ℕ) → v < M.rows → q < width M.columns →
      number (padded M.columns (bit M v)) (8 * q) 8 ≡ get_or rest (from v + q) 0
  byte_back v q h l =
      number_shift (padded M.columns (bit M v)) (digit 8 (get_or rest (from v + q) 0)) (8 * q) 0 8
      (λ i k. bit-back v (8 * q + i) h (omega arith) ∙ place v q i k) ∙
      number-digit 8 (get_or rest (from v + q) 0) (rw (get_or-drop 8 file (from v + q) 0) (bytes (8 + (from v + q))))

  rows_back : row_bytes M ≡ rest
  unfolding packed
  rows_back =
      let n = M.columns in
      let row : ℕ → List ℕ = λ v. packed n (bit M v) in
      let wide : (v : ℕ) → length (row v) ≡ width n = λ v. length-packed n (bit M v) in
      table_ext 0 M.rows (width n) (row_bytes M) rest (length-blocks (width n) row wide M.rows)
      (rw (length-drop 8 file) (omega (arith, r.sized.long)))
      (λ v q h l.
      get_d_blocks (width n) row wide M.rows v q 0 h l ∙
      (get_d_upto (width n) (λ q. number (padded n (bit M v)) (8 * q) 8) q 0 l ∙ byte_back v q h l))

  pub read_write : matrix_file M ≡ file
  unfolding matrix_file
  read_write = rw (header-back, rows_back) (take-append-drop 8 file)

-- ---- the operations together
-- An accepted file, read into any buffer and written again from it, is the same bytes.
pub read_then_write : (file entries : List ℕ) (room : ℕ) (M : Matrix) → ((i : ℕ) → get_or file i 0 < 256) →
    read_of file (length entries) ≡ gives M → length file ≤ room →
    write_of M.rows M.columns (lay M.entries entries) room ≡ gives file
unfolding read_under
read_then_write file entries room M bytes e h =
    let b = bound (matrix_of file) (λ X. refuse 13 (ltb (length entries) (X.rows * X.columns)) >> gives X) M e in
    let c = passed 13 (ltb (length entries) (b.0.rows * b.0.columns)) (gives b.0) M b.2 in
    let g = b.1 ∙ c.1 in
    let l : M.rows * M.columns ≤ length entries =
    rw (gives_inj c.1) at (ltb-false (length entries) (b.0.rows * b.0.columns) c.0) in
    let laid : List ℕ = lay M.entries entries in
    let ok = read_accepted file M g in
    let sized = accepted-sizes M ok in
    let back : taken M.rows M.columns laid ≡ M =
    ap (λ (l : List ℕ). record { rows = M.rows; columns = M.columns; entries = l })
    (take-lay (M.rows * M.columns) M.entries entries ok.whole) in
    let long : M.rows * M.columns ≤ length laid = rw (length-lay M.entries entries (omega (arith, ok.whole))) l in
    let small : above_one (M.rows * M.columns) laid ≡ false =
    any-all (M.rows * M.columns) (λ i. ltb 1 (get_or laid i 0))
    (λ i k. le-ltb 1 (get_or laid i 0) (rw (at_front M.entries entries i 0 (omega (arith, ok.whole))) (ok.bits i k))) in
    let sum : ltb (2 ^ M.columns) (total (taken M.rows M.columns laid)) ≡ false =
    rw back (le-ltb (2 ^ M.columns) (total M) ok.sum) in
    write_rest M.rows M.columns laid room sized long small sum ∙
    (rw (head_gives M.rows M.columns room sized (omega (arith, (matrix_read file M g).sized.long)))
    (ap gives (ap matrix_file back ∙ read_write file bytes M g)))

-- A written file is that of the matrix of the entries.
pub written_is : (m n : ℕ) (entries file : List ℕ) (room : ℕ) → write_of m n entries room ≡ gives file →
    matrix_of file ≡ gives (taken m n entries)
unfolding write_under
written_is m n entries file room e =
    let c1 = passed 3 _ _ file e in
    let c2 = passed 3 _ _ file c1.1 in
    let c3 = passed 13 _ _ file c2.1 in
    let c4 = passed 5 _ _ file c3.1 in
    let c5 = passed 6 _ _ file c4.1 in
    let c6 = passed 13 (ltb room (file_length m n)) _ file c5.1 in
    let r = within most_rows m c1.0 in
    let c = within most_columns n c2.0 in
    let ok : Accepted (taken m n entries) =
    record {
      some_rows = r.0;
      few_rows = r.1;
      some_columns = c.0;
      few_columns = c.1;
      whole = length-take-le (m * n) entries (ltb-false _ _ c3.0);
      bits = λ i l. rw (get_or-take (m * n) entries i 0 l) (no_entry-above (m * n) entries c4.0 i l);
      sum = ltb-false _ _ c5.0;
    } in
    rw (← gives_inj c6.1) (write_read (taken m n entries) ok)

-- A written matrix reads as itself, with the same rows, columns and entries, into any buffer with room for them.
pub write_then_read : (m n : ℕ) (entries file : List ℕ) (room space : ℕ) → write_of m n entries room ≡ gives file → m * n ≤ space →
    read_of file space ≡ gives (taken m n entries)
write_then_read m n entries file room space e h = read_room file space (taken m n entries) (written_is m n entries file room e) h
