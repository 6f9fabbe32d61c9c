-- The ways through the checks of a matrix file, and what passing them says. Assumes nothing.
use Rattle.std.specs.Prelude.{ℕ, ◌+◌, ◌-◌, ◌*◌, ◌/◌, ◌^◌, ◌≤◌, ◌<◌, ◌≡◌, refl, Bool, not, List, eqb, leb, take, drop}
use Rattle.std.proofs.Common.{ap, sym, ◌∙◌, subst, ⊎_elim, arith, length-drop}
use Rattle.std.proofs.Math.Bool.{true, false}
use borrow.Author.Tests.{lt-ltb, le-ltb, eq-eqb, ne_eqb, ltb-false, le-leb, lt-leb, eqb-true, not-false}
use Rattle.std.proofs.Math.Dec.{ltb}
use Rattle.std.proofs.Math.ListN.{length}
use Rattle.laws.specs.Tests.{lt-or_ge, never}
use Rattle.laws.specs.Lists.{row-end, rest_is}
use Rattle.laws.specs.Outcome.{Outcome, refused, gives, refuse, ◌>>◌, passed, bound, mapped, mapped-gives, mapped-refused, gives_inj}
use Rattle.laws.specs.Outcome.{no_result}
use Rattle.fields.specs.Limits.{most_columns, outside, inside, within}
use Rattle.fields.specs.Fields.{field_of, width, bit_of}
use Rattle.fields.specs.Strings.{any_spare, strings_of, strings-whole}
use Rattle.files.specs.Matrix.{Matrix, Sizes, sizes, sizes_outside, bit, p, total, most_rows}
use Rattle.files.specs.Matrices.{tabled_bit}
use Rattle.files.specs.Sizes.{sizes-refuse}
use Rattle.files.specs.Live.{total_from, total-eq, rows_fit}
use Rattle.files.specs.Files.{file_length, sizes_under, header_under, header_of, body_of, unpacked, Whole}
use Rattle.files.specs.Files.{matrix_under, matrix_of, read_under, read_of}

-- what has passed before the sizes are tried, with the fields as they were read
pub record Kinded (file : List ℕ) (len m n : ℕ) : Type 0 where
  pub long : 8 ≤ length file
  pub length_is : len ≡ field_of file 0
  pub there : len ≤ length file
  pub kind_is : field_of file 2 ≡ 32
  pub rows_is : m ≡ field_of file 4
  pub columns_is : n ≡ field_of file 6

module _ {file : List ℕ} {len m n : ℕ} (k : Kinded file len m n) where
  past-kind : header_of file ≡
      (refuse 3 (sizes_outside m n) >> (refuse 4 (not (eqb len (file_length m n))) >>
      (refuse 4 (not (eqb (length file) len)) >> gives (record { rows = m; columns = n }))))
  unfolding header_under sizes_under
  past-kind =
      let there : field_of file 0 ≤ length file = rw k.length_is at k.there in
      rw (
        k.length_is,
        k.rows_is,
        k.columns_is,
        le-ltb (length file) 4 (omega (arith, k.long)),
        eq-eqb (field_of file 2) 32 k.kind_is,
        le-ltb (length file) 8 k.long,
        le-ltb (length file) (field_of file 0) there,
      ) (sizes-refuse (field_of file 4) (field_of file 6) _)

  pub header-sizes : sizes_outside m n ≡ true → refused 3 ≡ header_of file
  header-sizes s = rw (past-kind, s)

  module _ (s : sizes_outside m n ≡ false) where
    pub header_length : (len ≡ file_length m n → ⊥) → refused 4 ≡ header_of file
    header_length l = rw (past-kind, s, ne_eqb len (file_length m n) l)

    module _ (l : len ≡ file_length m n) where
      pub header-left : (length file ≡ len → ⊥) → refused 4 ≡ header_of file
      header-left e = rw (past-kind, s, eq-eqb len (file_length m n) l, ne_eqb (length file) len e)

      pub header-gives : length file ≡ len → gives (record { rows = m; columns = n }) ≡ header_of file
      header-gives e = rw (past-kind, s, eq-eqb len (file_length m n) l, eq-eqb (length file) len e)

-- what a header that passes says: the file is whole, and its fields are these
pub record Header (file : List ℕ) (s : Sizes) : Type 0 where
  pub sized : Whole file s
  pub length_is : field_of file 0 ≡ file_length s.rows s.columns
  pub kind_is : field_of file 2 ≡ 32
  pub rows_is : field_of file 4 ≡ s.rows
  pub columns_is : field_of file 6 ≡ s.columns

-- check by check, whatever the limit of columns
record Passed (most : ℕ) (file : List ℕ) (s : Sizes) : Type 0 where
  kind_is : field_of file 2 ≡ 32
  rows_in : outside most_rows (field_of file 4) ≡ false
  columns_in : outside most (field_of file 6) ≡ false
  length_is : field_of file 0 ≡ file_length (field_of file 4) (field_of file 6)
  long : length file ≡ field_of file 0
  sizes_are : record { rows = field_of file 4; columns = field_of file 6 } ≡ s

-- what the one gives the other gives; a check before it changes nothing of that
Only : Outcome Sizes → Outcome Sizes → Type 0
Only o q = (s : Sizes) → o ≡ gives s → q ≡ gives s

only_same : (q : Outcome Sizes) → Only q q
unfolding Only
only_same q s e = e

only_none : (n : ℕ) (q : Outcome Sizes) → Only (refused n) q
unfolding Only
only_none n q s e = no_result n s e

only_then : (n : ℕ) (test : Bool) (o q : Outcome Sizes) → Only o q → Only (refuse n test >> o) q
unfolding Only
only_then n true o q d s e = no_result n s e
only_then n false o q d s e = d s e

-- wherever the kind is tried, a header of another kind is refused
kind_tried : (most : ℕ) (file : List ℕ) → (field_of file 2 ≡ 32 → ⊥) → Only (header_under most file) (refused 2)
unfolding header_under
kind_tried most file k = rw (ne_eqb (field_of file 2) 32 k) (search (only_then, only_none))

kind_told : (most : ℕ) (file : List ℕ) (s : Sizes) → header_under most file ≡ gives s → field_of file 2 ≡ 32
unfolding Only
kind_told most file s e = told (eqb (field_of file 2) 32) refl
  where
    told : (b : Bool) → eqb (field_of file 2) 32 ≡ b → field_of file 2 ≡ 32
    told true q = eqb-true _ _ q
    told false q = no_result 2 s (kind_tried most file (λ h. never (sym q ∙ eq-eqb _ _ h)) s e)

-- and the sizes are tried last
sizes_tried : (most : ℕ) (file : List ℕ) → Only (header_under most file) (sizes_under most file)
unfolding header_under
sizes_tried most file = search (only_then, only_same)

header-passed : (most : ℕ) (file : List ℕ) (s : Sizes) → header_under most file ≡ gives s → Passed most file s
unfolding sizes_under Only
header-passed most file s e =
    let c4 = sizes_tried most file s e in
    let c5 = passed 3 (outside most_rows (field_of file 4)) _ s c4 in
    let c6 = passed 3 (outside most (field_of file 6)) _ s c5.1 in
    let c7 = passed 4 (not (eqb (field_of file 0) (file_length (field_of file 4) (field_of file 6)))) _ s c6.1 in
    let c8 = passed 4 (not (eqb (length file) (field_of file 0))) _ s c7.1 in
    record {
      kind_is = kind_told most file s e;
      rows_in = c5.0;
      columns_in = c6.0;
      length_is = eqb-true _ _ (not-false _ c7.0);
      long = eqb-true _ _ (not-false _ c8.0);
      sizes_are = gives_inj c8.1;
    }

pub header-says : (file : List ℕ) (s : Sizes) → header_of file ≡ gives s → Header file s
header-says file s e =
    let c = header-passed most_columns file s e in
    let m = within most_rows (field_of file 4) c.rows_in in
    let n = within most_columns (field_of file 6) c.columns_in in
    subst (Header file) c.sizes_are
    (record {
      sized = record { some_rows = m.0; few_rows = m.1; some_columns = n.0; few_columns = n.1; long = c.long ∙ c.length_is };
      length_is = c.length_is;
      kind_is = c.kind_is;
      rows_is = refl;
      columns_is = refl;
    })

-- ---- the rows: what the live test and the spare bits say of the matrix
-- entry by entry, the matrix of packed rows is those rows
pub unpacked_bit : (bytes : List ℕ) (s : Sizes) (v c : ℕ) → v < s.rows → c < s.columns →
    bit (unpacked bytes s) v c ≡ bit_of bytes (v * width s.columns) c
unfolding unpacked
unpacked_bit bytes s = tabled_bit s.rows s.columns (λ v. bit_of bytes (v * width s.columns))

-- T over bits that agree with the matrix
pub total-is : (M : Matrix) (f : ℕ → ℕ → ℕ) → ((v c : ℕ) → v < M.rows → c < M.columns → bit M v c ≡ f v c) →
    total M ≡ total_from f M.rows 0 M.columns
unfolding total total_from p
total-is M f e = total-eq (bit M) f M.rows M.columns e M.columns (omega arith)

pub not_above : (t x : ℕ) → ltb x t ≡ not (leb t x)
not_above t x =
    ⊎_elim (λ (h : x < t). rw (lt-ltb x t h, lt-leb t x h)) (λ (h : t ≤ x). rw (le-ltb x t h, le-leb t x h)) (lt-or_ge x t)

-- the live test of the packed rows is refusal 6's
pub live-sum : (bytes : List ℕ) (s : Sizes) (w : ℕ) → w ≡ width s.columns →
    ltb (2 ^ s.columns) (total (unpacked bytes s)) ≡ not (rows_fit bytes 8 w s.rows s.columns)
unfolding unpacked
live-sum bytes s w e =
    rw (e, total-is (unpacked bytes s) (λ v. bit_of bytes (v * width s.columns)) (unpacked_bit bytes s))
    (not_above (total_from (λ v. bit_of bytes (v * width s.columns)) s.rows 0 s.columns) (2 ^ s.columns))

module _ (file : List ℕ) (s : Sizes) (w : Whole file s) where
  -- the rows are strings that are all there, so that of their refusals 5 alone is left
  body_is : body_of file s ≡
      (strings_of s.rows s.columns (drop 8 file) >>
      (refuse 6 (ltb (2 ^ s.columns) (total (unpacked (drop 8 file) s))) >> gives (unpacked (drop 8 file) s)))
  unfolding body_of
  body_is =
      rw (strings-whole s.rows s.columns (drop 8 file) (inside most_columns s.columns w.some_columns w.few_columns)
      (rw (length-drop 8 file) (omega (arith, w.long))))

  -- byte by byte
  pub row_bytes_lem : (b : ℕ) → b ≡ width s.columns → (v c : ℕ) → v < s.rows → c < s.columns →
      c / 8 + v * b < length (take (length file - 8) (drop 8 file))
  row_bytes_lem b e v c h l =
      rw (rest_is, length-drop) (omega (arith, row-end {size = length file - 8} b (width s.columns) h e (omega (arith, w.long))))

  pub body_refused : (n : ℕ) → refused n ≡ strings_of s.rows s.columns (drop 8 file) → refused n ≡ mapped sizes (body_of file s)
  body_refused n e = rw (body_is, ← e)

  pub body_sum : (b : Bool) (w : ℕ) → gives tt ≡ strings_of s.rows s.columns (drop 8 file) → w ≡ width s.columns →
      not (rows_fit (drop 8 file) 8 w s.rows s.columns) ≡ b → (refuse 6 b >> gives s) ≡ mapped sizes (body_of file s)
  unfolding unpacked
  body_sum true w e q t = rw (body_is, ← e, live-sum (drop 8 file) s w q ∙ t)
  body_sum false w e q t = rw (body_is, ← e, live-sum (drop 8 file) s w q ∙ t)

-- ---- the file
-- what an accepted file says: its header, its spare bits, T, and that it is the matrix of its rows
pub record Read (file : List ℕ) (M : Matrix) : Type 0 where
  pub sized : Whole file (sizes M)
  pub header : header_of file ≡ gives (sizes M)
  pub no_spare : any_spare M.rows M.columns (drop 8 file) ≡ false
  pub sum : total M ≤ 2 ^ M.columns
  pub is : M ≡ unpacked (drop 8 file) (sizes M)

pub matrix_read : (file : List ℕ) (M : Matrix) → matrix_of file ≡ gives M → Read file M
unfolding matrix_under body_of unpacked
matrix_read file M e =
    let b = bound (header_of file) (body_of file) M e in
    let c5 = passed 5 _ _ M b.2 in
    let c6 = passed 6 _ _ M c5.1 in
    subst (Read file) (gives_inj c6.1)
    (record {
      sized = (header-says file b.0 b.1).sized;
      header = b.1;
      no_spare = c5.0;
      sum = ltb-false _ _ c6.0;
      is = refl;
    })

-- whatever the limit of columns, a matrix that is read has as many as its header says, and no more than the limit
pub matrix-columns : (most : ℕ) (file : List ℕ) (M : Matrix) → matrix_under most file ≡ gives M →
    (field_of file 6 ≡ M.columns) × (M.columns ≤ most)
unfolding matrix_under body_of unpacked
matrix-columns most file M e =
    let (s, head, body) = bound (header_under most file) (body_of file) M e in
    let c5 = passed 5 (any_spare s.rows s.columns (drop 8 file)) _ M body in
    let c6 = passed 6 (ltb (2 ^ s.columns) (total (unpacked (drop 8 file) s))) _ M c5.1 in
    let h = header-passed most file s head in
    let same : field_of file 6 ≡ M.columns =
    ap (λ (t : Sizes). t.columns) h.sizes_are ∙ ap (λ (N : Matrix). N.columns) (gives_inj c6.1) in
    (same, rw (← same) (within most (field_of file 6) h.columns_in).1)

-- ---- reading
module _ (file : List ℕ) (room : ℕ) where
  pub read_refused : (n : ℕ) → refused n ≡ mapped sizes (matrix_of file) → read_of file room ≡ refused n
  unfolding read_under
  read_refused n e = rw (mapped-refused sizes (matrix_of file) n e)

  pub read_short : (s : Sizes) → gives s ≡ mapped sizes (matrix_of file) → room < s.rows * s.columns → read_of file room ≡ refused 13
  unfolding read_under
  read_short s e h =
      let g = mapped-gives sizes (matrix_of file) s e in
      let l : ltb room (g.0.rows * g.0.columns) ≡ true = rw (← g.2) at (lt-ltb room (s.rows * s.columns) h) in
      rw (g.1, l)

  -- a file with a matrix, read into a buffer with room for its entries, gives it
  pub read_room : (M : Matrix) → matrix_of file ≡ gives M → M.rows * M.columns ≤ room → read_of file room ≡ gives M
  unfolding read_under
  read_room M e h = rw (e, le-ltb room (M.rows * M.columns) h)

  pub read_gives : (s : Sizes) → gives s ≡ mapped sizes (matrix_of file) → s.rows * s.columns ≤ room →
      read_of file room ≡ gives (unpacked (drop 8 file) s)
  read_gives s e h =
      let g = mapped-gives sizes (matrix_of file) s e in
      read_room g.0 g.1 (rw (← g.2) at h) ∙ ap gives ((matrix_read file g.0 g.1).is ∙ ap (unpacked (drop 8 file)) g.2)

-- what a caller of `check` knows of the file
pub checked-whole : (file : List ℕ) (s : Sizes) → gives s ≡ mapped sizes (matrix_of file) → Whole file s
checked-whole file s e =
    let g = mapped-gives sizes (matrix_of file) s e in
    subst (Whole file) g.2 (matrix_read file g.0 g.1).sized
