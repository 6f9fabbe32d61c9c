-- Export and import are inverse: an exported table imports as the same file, an imported table exports as the same numbers.
-- Assumes nothing.
use Rattle.std.specs.Prelude.{ℕ, ◌+◌, ◌^◌, ◌≤◌, ◌<◌, ◌≡◌, List, length, get_or, take}
use Rattle.std.proofs.Math.Path.{refl}
use Rattle.std.proofs.Common.{ap, ◌∙◌, ext_get_or}
use native.Mathlib.Omega.{arith}
use Rattle.laws.specs.Sums.{sum_to, sum-eq, sum_more}
use Rattle.laws.specs.Digits.{digit, number_lt}
use Rattle.laws.proofs.Digits.{digit-number}
use Rattle.laws.specs.Lists.{length-upto, get_d_upto}
use Rattle.laws.specs.Lay.{lay, take-lay}
use Rattle.laws.specs.Outcome.{gives, bound}
use Rattle.files.specs.Matrix.{Matrix, Accepted, bit, p, total}
use Rattle.files.specs.Files.{matrix_file, matrix_of}
use Rattle.files.specs.Matrices.{equal_bits}
use Rattle.files.specs.Writing.{length-file}
use Rattle.files.specs.RoundTrip.{accepted-bits, read_accepted, read_write}
use Rattle.cumulative.specs.Tables.{Table, most_bits, entry, rows_of, difference, imported, import_of, sums, export_under, export_of}
use Rattle.cumulative.specs.Taken.{Cumulative, summed}
use Rattle.cumulative.specs.Importing.{imported_bit, imported_row, imported_accepted, import_iff, import_is}
use Rattle.cumulative.specs.Exporting.{export_room, export_says}

-- ---- the table of an accepted matrix
module _ (M : Matrix) where
  sums-entry : (v : ℕ) → v ≤ M.rows → entry (sums M) v ≡ sum_to v (p M)
  unfolding sums
  sums-entry v h = get_d_upto (M.rows + 1) (λ v. sum_to v (p M)) v 0 (omega arith)

  length-sums : length (sums M) ≡ M.rows + 1
  unfolding sums
  length-sums = length-upto (M.rows + 1) (λ v. sum_to v (p M))

  pub sums-rows : rows_of (sums M) ≡ M.rows
  sums-rows = omega (arith, length-sums)

  pub sums-difference : (v : ℕ) → v < M.rows → difference (sums M) v ≡ p M v
  unfolding difference
  sums-difference v h =
      let next = sums-entry (v + 1) (omega arith) in
      let here = sums-entry v (omega arith) in
      omega (arith, next, here, sum_more v (p M))

  module _ (ok : Accepted M) where
    p-small : (v : ℕ) → v < M.rows → p M v < 2 ^ M.columns
    unfolding p
    p-small v h = number_lt (bit M v) 0 M.columns (λ i a b. accepted-bits M ok v i h (omega arith))

    -- it is one that import takes
    pub sums_cumulative : M.columns ≤ most_bits → Cumulative (sums M) M.columns
    unfolding total sum_to
    sums_cumulative h =
        let m = sums-rows in
        record {
          sizes = record {
            some = omega (arith, length-sums, ok.some_rows);
            few = omega (arith, length-sums, ok.few_rows);
            some_bits = ok.some_columns;
            few_bits = h;
          };
          first = sums-entry 0 (omega arith);
          rises = record {
            next = λ v l.
                let here = sums-entry v (omega (arith, m)) in
                let next = sums-entry (v + 1) (omega (arith, m)) in
                omega (arith, here, next, sum_more v (p M));
          };
          last = rw m (omega (arith, sums-entry M.rows (omega arith), ok.sum));
          fits = λ v l. rw (sums-difference v (omega (arith, m))) (p-small v (omega (arith, m)));
        }

    -- and its matrix is that matrix, bit by bit
    sums-bit : (v c : ℕ) → v < rows_of (sums M) → c < M.columns → bit (imported (sums M) M.columns) v c ≡ bit M v c
    unfolding p
    sums-bit v c l k =
        let h : v < M.rows = omega (arith, sums-rows) in
        let place : 0 + c ≡ c = omega arith in
        let read = digit-number (bit M v) 0 M.columns c (λ i a b. accepted-bits M ok v i h (omega arith)) k in
        imported_bit (sums M) M.columns v c l k ∙
        (ap (λ (x : ℕ). digit M.columns x c) (sums-difference v h) ∙ rw place at read)

    pub sums_imported : M.columns ≤ most_bits → imported (sums M) M.columns ≡ M
    unfolding imported
    sums_imported h =
        equal_bits (imported (sums M) M.columns) M (imported_accepted (sums M) M.columns (sums_cumulative h)).whole ok.whole
        sums-rows refl sums-bit

-- ---- the matrix of a table that is taken
-- its table is that table
pub imported_sums : (T : List ℕ) (n : ℕ) → Cumulative T n → sums (imported T n) ≡ T
unfolding imported
imported_sums T n ok =
    ext_get_or 0 (sums (imported T n)) T (length-sums (imported T n) ∙ omega (arith, ok.sizes.some))
    (λ v l. let h : v ≤ rows_of T = omega (arith, length-sums (imported T n)) in
    sums-entry (imported T n) v h ∙
    (sum-eq v (p (imported T n)) (difference T) (λ i k. imported_row T n ok i (omega arith)) ∙
    omega (arith, summed T ok.rises v h, ok.first)))

-- ---- the operations together
-- An exported table, read from the front of the buffer into which it was laid, imports with its n as the file that was exported.
pub export_then_import : (file table : List ℕ) (room : ℕ) (t : Table) → ((i : ℕ) → get_or file i 0 < 256) →
    export_of file (length table) ≡ gives t → length file ≤ room →
    import_of (take (length t.numbers) (lay t.numbers table)) t.columns room ≡ gives file
unfolding export_under
export_then_import file table room t bytes e h =
    let b = bound (matrix_of file) _ t e in
    let M = b.0 in
    let (narrow, is) = export_says file (length table) t e M b.1 in
    let ok = read_accepted file M b.1 in
    let back = sums_imported M ok narrow in
    let same : matrix_file M ≡ file = read_write file bytes M b.1 in
    rw (is, take-lay (length (sums M)) (sums M) table refl)
    ((import_iff (sums M) M.columns room file).1
    (sums_cumulative M ok narrow, rw (sums-rows M) (omega (arith, ap length same, length-file M)), ap matrix_file back ∙ same))

-- An imported table, its file read from the front of the buffer into which it was laid, exports as the same numbers with the same n, into
-- any buffer with room for them.
pub import_then_export : (T : List ℕ) (n : ℕ) (buffer file : List ℕ) (space : ℕ) → import_of T n (length buffer) ≡ gives file →
    length T ≤ space → export_of (take (length file) (lay file buffer)) space ≡ gives (record { numbers = T; columns = n })
unfolding imported
import_then_export T n buffer file space e h =
    let ok = ((import_iff T n (length buffer) file).0 e).0 in
    let t : List ℕ → Table = λ l. record { numbers = l; columns = n } in
    rw (take-lay (length file) file buffer refl)
    (export_room file space (imported T n) (import_is T n (length buffer) file e) ok.sizes.few_bits (omega (arith, ok.sizes.some)) ∙
    ap (λ (l : List ℕ). gives (t l)) (imported_sums T n ok))
