-- The ways through the checks of a walk: each refusal, and what is drawn from the rows in the file. Assumes nothing.
use Rattle.std.specs.Prelude.{ℕ, ◌+◌, ◌*◌, ◌/◌, ◌%◌, ◌≤◌, ◌<◌, ◌≡◌, List, get_or, drop}
use Rattle.std.proofs.Common.{sym, ◌∙◌, arith, get_or-drop}
use Rattle.std.proofs.Math.Path.{ap}
use Rattle.laws.specs.Digits.{digit, digit-le}
use Rattle.laws.specs.Lists.{upto, length-upto}
use Rattle.laws.specs.Outcome.{refused, gives, ◌>>◌, mapped, mapped-gives, mapped-refused}
use Rattle.fields.specs.Fields.{width, bit_of, packed_bit}
use Rattle.files.specs.declared.headers.Sizes.{Sizes}
use Rattle.files.specs.Matrix.{Matrix, sizes, bit}
use Rattle.files.specs.Files.{matrix_of}
use Rattle.files.specs.Checks.{header-says, matrix_read, unpacked_bit}
use Rattle.fields.specs.Strings.{strings_of}
use Rattle.walk.specs.Walk.{hit, miss, sample, missed, drawn, file_rows, draw_at, used, spending_of, walk_under, walk_of}
use Rattle.walk.specs.Steps.{walk_eq}
use Rattle.walk.specs.Used.{draw_at_column}

-- what is packed behind the first k bytes
bit-behind : (k : ℕ) (bytes : List ℕ) (at i : ℕ) → bit_of (drop k bytes) at i ≡ bit_of bytes (k + at) i
unfolding packed_bit
bit-behind k bytes at i =
    ap (λ (x : ℕ). digit 8 x (i % 8)) (get_or-drop k bytes (at + i / 8) 0 ∙ ap (λ (q : ℕ). get_or bytes q 0) (omega arith))

-- a bit of the rows in a file is 0 or 1
pub file_bit : (file : List ℕ) (n v c : ℕ) → file_rows file n v c ≤ 1
unfolding packed_bit
file_bit file n v c = digit-le 8 (get_or file (8 + v * width n + c / 8) 0) (c % 8)

-- the rows of a file with a matrix are that matrix's
pub rows_are : (file : List ℕ) (M : Matrix) → matrix_of file ≡ gives M → (v c : ℕ) → v < M.rows → c < M.columns →
    file_rows file M.columns v c ≡ bit M v c
rows_are file M e v c h l =
    sym (ap (λ (X : Matrix). bit X v c) (matrix_read file M e).is ∙
    (unpacked_bit (drop 8 file) (sizes M) v c h l ∙ bit-behind 8 file (v * width M.columns) c))

-- what is drawn from a file with a matrix is the walk of that matrix
pub draw_at_is : (file : List ℕ) (M : Matrix) → matrix_of file ≡ gives M → (strings : List ℕ) (at : ℕ) →
    draw_at file strings at ≡ drawn M (upto M.columns (bit_of strings at))
unfolding draw_at drawn
draw_at_is file M e strings at =
    let h = header-says file (sizes M) (matrix_read file M e).header in
    rw (h.rows_is, h.columns_is)
    (walk_eq (file_rows file M.columns) (bit M) M.rows 0 0 (upto M.columns (bit_of strings at))
    (λ v i l a b. rows_are file M e v i l (omega (arith, length-upto M.columns (bit_of strings at)))))

module _ (file string : List ℕ) where
  pub walk_refused : (n : ℕ) → refused n ≡ mapped sizes (matrix_of file) → refused n ≡ walk_of file string
  unfolding walk_under
  walk_refused n e = rw (mapped-refused sizes (matrix_of file) n e)

  module _ (s : Sizes) (e : gives s ≡ mapped sizes (matrix_of file)) where
    -- past the matrix's checks
    past-matrix : walk_of file string ≡ (strings_of 1 s.columns string >> gives (spending_of s.columns (draw_at file string 0)))
    unfolding walk_under
    past-matrix =
        let g = mapped-gives sizes (matrix_of file) s e in
        let n : g.0.columns ≡ s.columns = ap (λ (z : Sizes). z.columns) g.2 in
        rw (g.1, ← draw_at_is file g.0 g.1 string 0, n)

    pub walk_string : (n : ℕ) → refused n ≡ strings_of 1 s.columns string → refused n ≡ walk_of file string
    walk_string n q = rw (past-matrix, ← q)

    -- a hit lies in one of the columns
    pub hit-column : (v c : ℕ) → hit v c ≡ draw_at file string 0 → c < s.columns
    hit-column v c q =
        let g = mapped-gives sizes (matrix_of file) s e in
        let h = header-says file (sizes g.0) (matrix_read file g.0 g.1).header in
        omega (arith, draw_at_column file string 0 v c q, h.columns_is, ap (λ (z : Sizes). z.columns) g.2)

    module _ (q : gives tt ≡ strings_of 1 s.columns string) where
      pub walk_hits : (v c : ℕ) → hit v c ≡ draw_at file string 0 → gives (record { answer = sample v; used = c + 1 }) ≡ walk_of file string
      unfolding used
      walk_hits v c w = rw (past-matrix, ← q, ← w)

      pub walk_misses : miss ≡ draw_at file string 0 → gives (record { answer = missed; used = s.columns }) ≡ walk_of file string
      unfolding used
      walk_misses w = rw (past-matrix, ← q, ← w)
