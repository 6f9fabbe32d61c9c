-- The ways through the checks: each refusal, and what is added up from the rows in the file. Assumes nothing.
use Rattle.std.specs.Prelude.{ℕ, ◌*◌, ◌^◌, ◌≤◌, ◌<◌, ◌≡◌, List, sum_by}
use Rattle.std.specs.List.{range_with_len}
use Rattle.std.proofs.Common.{arith}
use Rattle.std.proofs.Math.Path.{ap, fun_ext}
use Rattle.laws.specs.Sums.{sum_to, sum-le}
use Rattle.laws.specs.Outcome.{refused, gives, ◌>>◌, mapped, mapped-gives, mapped-refused}
use Rattle.fields.specs.Fields.{width, field_of}
use Rattle.fields.specs.Strings.{strings_of}
use Rattle.files.specs.declared.headers.Sizes.{Sizes}
use Rattle.files.specs.Matrix.{Matrix, sizes}
use Rattle.files.specs.Files.{matrix_of}
use Rattle.files.specs.Checks.{header-says, matrix_read}
use Rattle.walk.specs.Walk.{used, used_at}
use Rattle.walk.specs.Ways.{draw_at_is}
use Rattle.walk.specs.Used.{used_at_most}
use Rattle.walk.specs.Ranges.{sum_range}
use Rattle.lanes.specs.Slicing.{lanes}
use Rattle.spent.specs.Spent.{used_on, spent_under, spent_of}

-- the columns that the walk of the file's rows on string j has used
abbrev pub used_by : List ℕ → List ℕ → ℕ → ℕ
used_by file strings j = used_at file strings (j * width (field_of file 6))

-- ---- the strings one after another, each from byte j * w on, as the library's iterators add up what their walks have used
pub walks_add_up : (file strings : List ℕ) (w : ℕ) → w ≡ width (field_of file 6) →
    sum_by (λ j. used_at file strings (j * w)) (range_with_len 0 lanes) ≡ sum_to lanes (used_by file strings)
walks_add_up file strings w e = rw e (sum_range lanes (used_by file strings))

pub walks_fit : (file strings : List ℕ) (w n : ℕ) → w ≡ width (field_of file 6) → n ≡ field_of file 6 → n < 65536 →
    sum_by (λ j. used_at file strings (j * w)) (range_with_len 0 lanes) < 2 ^ 64
walks_fit file strings w n e q h =
    let many : sum_to lanes (used_by file strings) ≤ lanes * field_of file 6 =
    sum-le lanes (field_of file 6) (used_by file strings) (λ j l. used_at_most file strings (j * width (field_of file 6))) in
    omega (arith, walks_add_up file strings w e, many, q, h)

-- ---- the file
module _ (file strings : List ℕ) where
  pub spent_refused : (n : ℕ) → refused n ≡ mapped sizes (matrix_of file) → refused n ≡ spent_of file strings
  unfolding spent_under
  spent_refused n e = rw (mapped-refused sizes (matrix_of file) n e)

  -- what the rows in a file with a matrix add up to is what the matrix does
  rows-add_up : (M : Matrix) → matrix_of file ≡ gives M →
      sum_to lanes (used_by file strings) ≡ sum_to lanes (used_on M strings)
  rows-add_up M e =
      let h = header-says file (sizes M) (matrix_read file M e).header in
      ap (sum_to lanes)
      (fun_ext (λ j. rw h.columns_is (ap (used M.columns) (draw_at_is file M e strings (j * width M.columns)))))

  module _ (s : Sizes) (e : gives s ≡ mapped sizes (matrix_of file)) where
    -- past the matrix's checks
    past-matrix : spent_of file strings ≡
        (strings_of lanes s.columns strings >> gives (sum_to lanes (used_by file strings)))
    unfolding spent_under
    past-matrix =
        let g = mapped-gives sizes (matrix_of file) s e in
        let n : g.0.columns ≡ s.columns = ap (λ (z : Sizes). z.columns) g.2 in
        rw (g.1, ← rows-add_up g.0 g.1, n)

    pub spent_strings : (n : ℕ) → refused n ≡ strings_of lanes s.columns strings → refused n ≡ spent_of file strings
    spent_strings n q = rw (past-matrix, ← q)

    pub spent_total : (t : ℕ) → gives tt ≡ strings_of lanes s.columns strings →
        t ≡ sum_to lanes (used_by file strings) → gives t ≡ spent_of file strings
    spent_total t q u = rw (past-matrix, ← q, u)
