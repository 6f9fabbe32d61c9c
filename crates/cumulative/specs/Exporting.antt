-- Export: the ways through its checks, and the sums of rows that are packed in a file. Assumes nothing.
use Rattle.std.specs.Prelude.{ℕ, ◌+◌, ◌-◌, ◌*◌, ◌^◌, ◌≤◌, ◌<◌, ◌≡◌, List, [], ◌∷◌, ltb, length, set, take, drop}
use Rattle.std.proofs.Math.Path.{ap, sym}
use Rattle.std.proofs.Common.{◌∙◌, arith, length-drop, length-set, length-take-le}
use borrow.Author.Tests.{lt-ltb, le-ltb, ltb-false}
use Rattle.std.proofs.Math.Pow.{pow_mono}
use Rattle.laws.specs.Sums.{sum_to, sum-eq}
use Rattle.laws.specs.Digits.{number, number_shift}
use borrow.Rule.Slice.PartMut.{put_mid}
use Rattle.std.proofs.Math.Seq.{drop-drop}
use Rattle.laws.specs.Lists.{blocks, upto, upto-eq, length-upto, upto-split}
use Rattle.laws.specs.Lay.{lay, lay_at, lay-is, lay_at-after, set_is}
use Rattle.laws.specs.Outcome.{refused, gives, mapped, passed, gives_inj, mapped-gives, mapped-refused}
use Rattle.fields.specs.Fields.{bit_of, width}
use Rattle.files.specs.declared.headers.Sizes.{Sizes}
use Rattle.files.specs.Matrix.{Matrix, sizes, bit, p, total}
use Rattle.files.specs.Files.{matrix_of}
use Rattle.files.specs.Checks.{matrix_read, unpacked_bit}
use Rattle.cumulative.specs.declared.exporting.Extent.{Extent}
use Rattle.cumulative.specs.Tables.{Table, extent, most_bits, sums, exported, export_under, export_of}

-- row v of rows of n bits that are packed one after another, as a number
unfoldable pub row_at : List ℕ → ℕ → ℕ → ℕ
row_at bytes n v = number (bit_of bytes (v * width n)) 0 n

-- as the code has it, by the place where the row begins
pub row-at : (bytes : List ℕ) (n v w x : ℕ) → w ≡ width n → x ≡ number (bit_of bytes (v * w)) 0 n → x ≡ row_at bytes n v
unfolding row_at
row-at bytes n v w x e q = q ∙ ap (λ (w : ℕ). number (bit_of bytes (v * w)) 0 n) e

-- the part of a buffer behind its first number
pub part_long : (m : ℕ) (buf : List ℕ) → m + 1 ≤ length buf → (x : ℕ) → length (take (m + 1 - 1) (drop 1 (set buf 0 x))) ≡ m
part_long m buf h x =
    omega (
      arith,
      length-take-le (m + 1 - 1) (drop 1 (set buf 0 x)) (omega (arith, length-drop 1 (set buf 0 x), length-set buf 0 x)),
    )

-- 0 first, and then the sums up to each row, over the front of a buffer
pub sums_laid : (rows : ℕ → ℕ) (m : ℕ) (buf ys : List ℕ) → m + 1 ≤ length buf → ys ≡ upto m (λ v. sum_to (v + 1) rows) →
    put_mid 1 (m + 1 - 1) (set buf 0 0) ys ≡ lay (upto (m + 1) (λ v. sum_to v rows)) buf
unfolding sum_to upto blocks lay_at
sums_laid rows m buf ys h q =
    let sums : ℕ → ℕ = λ v. sum_to v rows in
    let long : length ys ≡ m = ap length q ∙ length-upto m (λ v. sums (v + 1)) in
    let front : m + 1 ≡ 1 + m = omega arith in
    let size : m + 1 - 1 ≡ m = omega arith in
    let all : upto (m + 1) sums ≡ 0 ∷ ys =
    ap (λ (k : ℕ). upto k sums) front ∙
    (upto-split 1 m sums ∙
    ap (λ (l : List ℕ). 0 ∷ l)
    (upto-eq m (λ v. sums (1 + v)) (λ v. sums (v + 1)) (λ v l. ap sums (omega arith)) ∙ sym q)) in
    rw (all, size)
    (rw (set_is 0 0 buf (omega arith))
    (rw (← long, drop-drop (length ys) 1 (lay_at 0 (0 ∷ []) buf)) (lay_at-after 0 (0 ∷ []) ys buf (omega arith) ∙ lay-is (0 ∷ ys) buf)))

-- and their table
abbrev pub table_at : List ℕ → Sizes → Table
table_at bytes s = record { numbers = upto (s.rows + 1) (λ v. sum_to v (row_at bytes s.columns)); columns = s.columns }

pub table_extent : (bytes : List ℕ) (s : Sizes) (k : ℕ) → k ≡ s.rows + 1 →
    record { numbers = k; columns = s.columns } ≡ extent (table_at bytes s)
table_extent bytes s k e =
    let told : ℕ → Extent = λ k. record { numbers = k; columns = s.columns } in
    ap told (e ∙ sym (length-upto (s.rows + 1) (λ v. sum_to v (row_at bytes s.columns))))

-- ---- the rows of an accepted file
module _ (file : List ℕ) (M : Matrix) (e : matrix_of file ≡ gives M) where
  row_read : (v : ℕ) → v < M.rows → p M v ≡ row_at (drop 8 file) M.columns v
  unfolding p row_at
  row_read v h =
      number_shift (bit M v) (bit_of (drop 8 file) (v * width M.columns)) 0 0 M.columns
      (λ i l. ap (λ (X : Matrix). bit X v (0 + i)) (matrix_read file M e).is ∙
      unpacked_bit (drop 8 file) (sizes M) v (0 + i) h (omega arith))

  sums_read : sums M ≡ upto (M.rows + 1) (λ v. sum_to v (row_at (drop 8 file) M.columns))
  unfolding sums
  sums_read =
      upto-eq (M.rows + 1) (λ v. sum_to v (p M)) (λ v. sum_to v (row_at (drop 8 file) M.columns))
      (λ v h. sum-eq v (p M) (row_at (drop 8 file) M.columns) (λ i l. row_read i (omega arith)))

  exported_read : exported M ≡ table_at (drop 8 file) (sizes M)
  exported_read = ap (λ (l : List ℕ). record { numbers = l; columns = M.columns }) sums_read

  -- the sums fit
  sum-small : M.columns ≤ most_bits → sum_to M.rows (row_at (drop 8 file) M.columns) ≤ 2 ^ most_bits
  unfolding total
  sum-small h =
      rw (← sum-eq M.rows (p M) (row_at (drop 8 file) M.columns) row_read)
      (omega (arith, (matrix_read file M e).sum, pow_mono {i = M.columns} {j = most_bits} h))

-- of a caller who knows its sizes
pub rows-small : (file : List ℕ) (s : Sizes) → gives s ≡ mapped sizes (matrix_of file) → s.columns ≤ most_bits →
    sum_to s.rows (row_at (drop 8 file) s.columns) ≤ 2 ^ most_bits
rows-small file s e h =
    let g = mapped-gives sizes (matrix_of file) s e in
    rw (← g.2) (sum-small file g.0 g.1 (rw (← g.2) at h))

-- ---- the checks, after those of the file gave its sizes
module _ (file : List ℕ) (room : ℕ) where
  pub export_refused : (k : ℕ) → refused k ≡ mapped sizes (matrix_of file) → export_of file room ≡ refused k
  unfolding export_under
  export_refused k e = rw (mapped-refused sizes (matrix_of file) k e)

  -- a matrix of at most 63 columns, with room for its table, gives it
  pub export_room : (M : Matrix) → matrix_of file ≡ gives M → M.columns ≤ most_bits → M.rows + 1 ≤ room →
      export_of file room ≡ gives (exported M)
  unfolding export_under
  export_room M e h l = rw (e, le-ltb most_bits M.columns h, le-ltb room (M.rows + 1) l)

  -- and of no other matrix is there a table
  pub export_says : (t : Table) → export_of file room ≡ gives t → (M : Matrix) → matrix_of file ≡ gives M →
      (M.columns ≤ most_bits) × (t ≡ exported M)
  unfolding export_under
  export_says t x M e =
      let c3 = passed 3 (ltb most_bits M.columns) _ t (rw e at x) in
      let c13 = passed 13 (ltb room (M.rows + 1)) _ t c3.1 in
      (ltb-false _ _ c3.0, sym (gives_inj c13.1))

  module _ (s : Sizes) (e : gives s ≡ mapped sizes (matrix_of file)) where
    pub export_wide : most_bits < s.columns → export_of file room ≡ refused 3
    unfolding export_under
    export_wide h =
        let g = mapped-gives sizes (matrix_of file) s e in
        let wide = rw (← g.2) at (lt-ltb most_bits s.columns h) in
        rw (g.1, wide)

    module _ (h : s.columns ≤ most_bits) where
      pub export_short : room < s.rows + 1 → export_of file room ≡ refused 13
      unfolding export_under
      export_short l =
          let g = mapped-gives sizes (matrix_of file) s e in
          let narrow = rw (← g.2) at (le-ltb most_bits s.columns h) in
          let short = rw (← g.2) at (lt-ltb room (s.rows + 1) l) in
          rw (g.1, narrow, short)

      pub export_gives : s.rows + 1 ≤ room → export_of file room ≡ gives (table_at (drop 8 file) s)
      export_gives l =
          let g = mapped-gives sizes (matrix_of file) s e in
          export_room g.0 g.1 (rw (← g.2) at h) (rw (← g.2) at l) ∙
          ap gives (exported_read file g.0 g.1 ∙ ap (table_at (drop 8 file)) g.2)
