-- The turns of the search for a row's first set column, and the ways through the checks: each refusal, none, and the string that is laid
-- down. Assumes nothing.
use Rattle.std.specs.Prelude as Prelude
use Rattle.std.specs.Prelude.{ℕ, suc, ◌+◌, ◌≤◌, ◌<◌, ◌≡◌, Bool, true, false, MatchOption, List, eqb, get_or}
use Rattle.std.proofs.Math.Path.{refl, ap}
use Rattle.std.proofs.Common.{sym, ◌∙◌, arith}
use Rattle.std.proofs.Math.Option.{Option, none, some}
use borrow.Author.Tests.{le-leb, lt-leb, lt-ltb, le-ltb}
use Rattle.laws.specs.Digits.{digit}
use Rattle.laws.specs.Smallest.{smallest, smallest_lt, smallest_eq, smallest_none, smallest_at}
use Rattle.laws.specs.Lists.{upto, get_d_upto}
use Rattle.laws.specs.Outcome.{refused, gives, mapped, mapped-gives, mapped-refused}
use Rattle.fields.specs.Fields.{width, packed, packed-eq}
use Rattle.files.specs.declared.headers.Sizes.{Sizes}
use Rattle.files.specs.Matrix.{Matrix, sizes, bit}
use Rattle.files.specs.Files.{matrix_of}
use Rattle.files.specs.Live.{ones-eq, total-eq}
use Rattle.files.specs.RoundTrip.{read_accepted}
use Rattle.walk.specs.Walk.{file_rows}
use Rattle.walk.specs.Ways.{rows_are}
use Rattle.walk.specs.Numbers.{number_string}
use Rattle.walk.specs.Packed.{packed_string}
use Rattle.walk.specs.Intervals.{leading, first_number}
use Rattle.wanted.specs.Wanted.{column_of, number_for, packed_number, wanted_under, wanted_of}
use Rattle.wanted.specs.Theorems.{first_column, first_of, number_is}

-- ---- the search for a row's first set column, as the code answers
pub first_column_found : (n : ℕ) (test : ℕ → Bool) (o : Prelude.Option ℕ) →
    MatchOption o ((c : ℕ) → 0 ≤ c → c < n → test c ≡ false)
    (λ x. (0 ≤ x) × (x < n) × (test x ≡ true) × ((c : ℕ) → 0 ≤ c → c < x → test c ≡ false)) → column_of o ≡ smallest n test
first_column_found n test Prelude.None f = sym (smallest_none n test (λ c l. f c (omega arith) l))
first_column_found n test (Prelude.Some x) f = sym (smallest_at n test x f.1 f.2 (λ c l. f.3 c (omega arith) l))

-- ---- the first number of an interval depends on the bits of the m rows and n columns alone
module _ (f g : ℕ → ℕ → ℕ) (m n : ℕ) (same : (v c : ℕ) → v < m → c < n → f v c ≡ g v c) where
  first-eq : (v c : ℕ) → v < m → c < n → first_number f m n v c ≡ first_number g m n v c
  unfolding first_number leading
  first-eq v c a h =
      rw (total-eq f g m n same c (omega arith), ones-eq f g m n same m c (omega arith) h, ones-eq f g m n same (suc v) c a h)

-- ---- a number's string, packed
packed-number : (n x : ℕ) → packed_string n (number_string n x) ≡ packed n (digit n x)
unfolding packed_string number_string
packed-number n x = packed-eq n (λ i. get_or (upto n (digit n x)) i 0) (digit n x) (λ i l. get_d_upto n (digit n x) i 0 l)

-- ---- a matrix that is read: the first set column of the row in the file tells the answer
module _ (file : List ℕ) (M : Matrix) (e : matrix_of file ≡ gives M) (row room : ℕ) (h : row < M.rows) where
  -- a number by the file's rows, as code has them, is one by the matrix's
  first_in_file : (o : Option ℕ) → o ≡ smallest M.columns (λ c. eqb (file_rows file M.columns row c) 1) →
      first_of (bit M) M.rows M.columns row o ≡ first_of (file_rows file M.columns) M.rows M.columns row o
  first_in_file none q = refl
  first_in_file (some c) q =
      ap some
      (first-eq (bit M) (file_rows file M.columns) M.rows M.columns (λ v i a b. sym (rows_are file M e v i a b)) row c h
      (smallest_lt M.columns (λ c. eqb (file_rows file M.columns row c) 1) c q))

  number_in_file : (o : Option ℕ) → o ≡ smallest M.columns (λ c. eqb (file_rows file M.columns row c) 1) →
      number_for M row ≡ first_of (file_rows file M.columns) M.rows M.columns row o
  number_in_file o q =
      let first : first_column M row ≡ o =
      smallest_eq M.columns (λ c. eqb (bit M row c) 1) (λ c. eqb (file_rows file M.columns row c) 1)
      (λ c l. ap (λ (x : ℕ). eqb x 1) (sym (rows_are file M e row c h l))) ∙
      sym q in
      number_is M (read_accepted file M e) row h ∙
      (ap (first_of (bit M) M.rows M.columns row) first ∙ first_in_file o q)

  answer_in_file : width M.columns ≤ room → (o : Option ℕ) →
      o ≡ smallest M.columns (λ c. eqb (file_rows file M.columns row c) 1) →
      wanted_of file row room ≡ gives (packed_number M.columns (first_of (file_rows file M.columns) M.rows M.columns row o))
  unfolding wanted_under
  answer_in_file l o q =
      rw (e, lt-leb M.rows row h, le-ltb room (width M.columns) l)
      (ap (λ (x : Option ℕ). gives (packed_number M.columns x)) (number_in_file o q))

-- ---- the ways through the checks
module _ (file : List ℕ) (row room : ℕ) where
  pub wanted-refused : (n : ℕ) → refused n ≡ mapped sizes (matrix_of file) → wanted_of file row room ≡ refused n
  unfolding wanted_under
  wanted-refused n e = rw (mapped-refused sizes (matrix_of file) n e)

  module _ (s : Sizes) (e : gives s ≡ mapped sizes (matrix_of file)) where
    pub wanted-row : s.rows ≤ row → wanted_of file row room ≡ refused 3
    unfolding wanted_under
    wanted-row h =
        let g = mapped-gives sizes (matrix_of file) s e in
        let m : g.0.rows ≡ s.rows = ap (λ (z : Sizes). z.rows) g.2 in
        rw (g.1, m, le-leb s.rows row h)

    module _ (h : row < s.rows) where
      pub wanted_room : room < width s.columns → wanted_of file row room ≡ refused 13
      unfolding wanted_under
      wanted_room l =
          let g = mapped-gives sizes (matrix_of file) s e in
          let m : g.0.rows ≡ s.rows = ap (λ (z : Sizes). z.rows) g.2 in
          let n : g.0.columns ≡ s.columns = ap (λ (z : Sizes). z.columns) g.2 in
          rw (g.1, m, n, lt-leb s.rows row h, lt-ltb room (width s.columns) l)

      wanted_by : width s.columns ≤ room → (o : Option ℕ) →
          o ≡ smallest s.columns (λ c. eqb (file_rows file s.columns row c) 1) →
          wanted_of file row room ≡
          gives (packed_number s.columns (first_of (file_rows file s.columns) s.rows s.columns row o))
      wanted_by l o q =
          let g = mapped-gives sizes (matrix_of file) s e in
          let m : g.0.rows ≡ s.rows = ap (λ (z : Sizes). z.rows) g.2 in
          let n : g.0.columns ≡ s.columns = ap (λ (z : Sizes). z.columns) g.2 in
          rw (m, n) at (answer_in_file file g.0 g.1 row room (omega (arith, m)) (rw n l) o (rw n q))

      pub wanted-none : width s.columns ≤ room → none ≡ smallest s.columns (λ c. eqb (file_rows file s.columns row c) 1) →
          wanted_of file row room ≡ gives none
      wanted-none l q = wanted_by l none q

      -- what is laid down, in the words of the code
      pub wanted-found : width s.columns ≤ room → (c : ℕ) →
          some c ≡ smallest s.columns (λ c. eqb (file_rows file s.columns row c) 1) →
          wanted_of file row room ≡
          gives (some (packed s.columns (digit s.columns (first_number (file_rows file s.columns) s.rows s.columns row c))))
      wanted-found l c q =
          wanted_by l (some c) q ∙
          ap (λ (bytes : List ℕ). gives (some bytes))
          (packed-number s.columns (first_number (file_rows file s.columns) s.rows s.columns row c))
