-- 01, "Matrix and walk", and 02, order 1: the walk on a string of bits, the columns that it has used, and what walking a matrix file
-- comes to. Assumes nothing.
use Rattle.std.specs.Prelude.{ℕ, zero, suc, ◌+◌, ◌*◌, Bool, true, false, Option, Some, None, List, [], ◌∷◌, eqb}
use Rattle.laws.specs.Lists.{upto}
use Rattle.laws.specs.Outcome.{Outcome, gives, ◌>>◌, ◌>>=◌}
use Rattle.fields.specs.Fields.{bit_of, field_of, width}
use Rattle.fields.specs.Limits.{most_columns}
use Rattle.files.specs.Matrix.{Matrix, bit}
use Rattle.files.specs.Files.{matrix_under}
use Rattle.fields.specs.Strings.{strings_under}
use Rattle.walk.specs.declared.Hit.{Hit}
use Rattle.walk.specs.declared.Walked.{Walked}

-- what a walk draws: a row, hit in a column, or nothing
pub data Drawn : Type 0 where
  hit : ℕ → ℕ → Drawn
  miss : Drawn

-- where the rows of one column leave the walk: at the row that it hits, or with what is left of d
pub data Place : Type 0 where
  found : ℕ → Place
  left : ℕ → Place

-- a row whose bit is b: nothing at a 0; at a 1 a hit if d is 0, and otherwise d drops by 1
unfoldable pub at : ℕ → ℕ → ℕ → (ℕ → Place) → Place
at zero row d go = go d
at (suc b) row zero go = found row
at (suc b) row (suc d) go = go d

-- the rows r - 1 down to 0 of one column
unfoldable pub scan : (ℕ → ℕ) → ℕ → ℕ → Place
scan column zero d = left d
scan column (suc r) d = at (column r) r d (λ e. scan column r e)

-- a hit in column c ends the walk, and what is left of d goes on
unfoldable pub then : ℕ → Place → (ℕ → Drawn) → Drawn
then c (found row) go = hit row c
then c (left d) go = go d

-- from column c on with the distance d, over m rows and one bit for each column that is left: d becomes 2d + b, then the rows are scanned
unfoldable pub walk : (ℕ → ℕ → ℕ) → ℕ → ℕ → ℕ → List ℕ → Drawn
walk bit m c d [] = miss
walk bit m c d (b ∷ bs) = then c (scan (λ v. bit v c) m (2 * d + b)) (λ e. walk bit m (suc c) e bs)

-- the walk of a matrix on a string of bits
unfoldable pub drawn : Matrix → List ℕ → Drawn
drawn M string = walk (bit M) M.rows 0 0 string

-- the columns that a walk of n columns has used: a hit in column c has used c + 1, a miss all n (02, order 1)
unfoldable pub used : ℕ → Drawn → ℕ
used n (hit v c) = c + 1
used n miss = n

-- what a walk answers: the row that it hits, as the sample, or a miss
pub data Answer : Type 0 where
  sample : ℕ → Answer
  missed : Answer

abbrev pub answer_of : Drawn → Answer
answer_of (hit v c) = sample v
answer_of miss = missed

-- what is told of a walk of n columns: its answer, and the columns that it has used
pub record Spending : Type 0 where
  pub answer : Answer
  pub used : ℕ

abbrev pub spending_of : ℕ → Drawn → Spending
spending_of n d = record { answer = answer_of d; used = used n d }

-- walking a matrix file on a packed string, where at most `most` columns are allowed: the matrix's checks, then the string's, then the walk
-- on its first n bits
unfoldable pub walk_under : ℕ → List ℕ → List ℕ → Outcome Spending
walk_under most file string = do
  M ← matrix_under most file
  strings_under most 1 M.columns string
  gives (spending_of M.columns (drawn M (upto M.columns (bit_of string 0))))

-- at the limit of columns
abbrev pub walk_of : List ℕ → List ℕ → Outcome Spending
walk_of = walk_under most_columns

-- the rows of n bits that are packed behind a file's header
abbrev pub file_rows : List ℕ → ℕ → ℕ → ℕ → ℕ
file_rows file n v = bit_of file (8 + v * width n)

-- the walk of these rows, as many and as long as the file's fields say, on the bits from byte `at` on: where the file has a matrix it is
-- the walk of that matrix (`draw_at_is`, walk/Ways)
unfoldable pub draw_at : List ℕ → List ℕ → ℕ → Drawn
draw_at file strings at = walk (file_rows file (field_of file 6)) (field_of file 4) 0 0 (upto (field_of file 6) (bit_of strings at))

-- the columns that it has used, of as many as the file's field says
abbrev pub used_at : List ℕ → List ℕ → ℕ → ℕ
used_at file strings at = used (field_of file 6) (draw_at file strings at)

-- whether an answer is row v, and whether it is a miss
abbrev pub is_row : ℕ → Answer → Bool
is_row v (sample u) = eqb u v
is_row v missed = false

abbrev pub is_miss : Answer → Bool
is_miss (sample v) = false
is_miss missed = true

-- whether a walk hits row v, and whether it misses
unfoldable pub hits : ℕ → Drawn → Bool
hits v d = is_row v (answer_of d)

unfoldable pub misses : Drawn → Bool
misses d = is_miss (answer_of d)

-- ---- the code's answers in these words
abbrev pub drawn_of : Option Hit → Drawn
drawn_of (Some h) = hit h.row h.column
drawn_of None = miss

abbrev pub row_answer : Option ℕ → Answer
row_answer (Some v) = sample v
row_answer None = missed

abbrev pub walked : Walked → Spending
walked w = record { answer = row_answer w.row; used = w.used }
