-- 01, "Files" and "The engine's no": the file of a matrix, and what checking, reading and writing one come to. Assumes nothing.
use Rattle.std.specs.Prelude.{ℕ, ◌+◌, ◌*◌, ◌^◌, ◌≤◌, ◌≡◌, Bool, not, List, ◌++◌, eqb, ltb, length, get_or, take, drop}
use Rattle.laws.specs.Sums.{any}
use Rattle.laws.specs.Lists.{blocks}
use Rattle.laws.specs.Outcome.{Outcome, gives, refuse, ◌>>◌, ◌>>=◌}
use Rattle.fields.specs.Limits.{most_columns, outside}
use Rattle.fields.specs.Fields.{field_of, field_bytes, width, bit_of, packed}
use Rattle.fields.specs.Strings.{any_spare}
use Rattle.files.specs.Matrix.{Matrix, Sizes, tabled, bit, total, most_rows}

-- the length that a matrix file of m rows and n columns has
abbrev pub file_length : ℕ → ℕ → ℕ
file_length m n = 8 + m * width n

-- its header: the length of the whole record, kind 32, m, n
unfoldable pub header_bytes : ℕ → ℕ → List ℕ
header_bytes m n = field_bytes (file_length m n) ++ field_bytes 32 ++ field_bytes m ++ field_bytes n

-- its rows: each packed, one after another
abbrev pub row_bytes : Matrix → List ℕ
row_bytes M = blocks M.rows (λ v. packed M.columns (bit M v))

-- the file of a matrix: the header, then each row
unfoldable pub matrix_file : Matrix → List ℕ
matrix_file M = header_bytes M.rows M.columns ++ row_bytes M

-- the sizes of a header that is there and of its kind, where at most `most` columns are allowed: refusals 3 and 4, or rows and columns
unfoldable pub sizes_under : ℕ → List ℕ → Outcome Sizes
sizes_under most file = do
  refuse 3 (outside most_rows (field_of file 4))
  refuse 3 (outside most (field_of file 6))
  refuse 4 (not (eqb (field_of file 0) (file_length (field_of file 4) (field_of file 6))))
  refuse 4 (not (eqb (length file) (field_of file 0)))
  gives (record { rows = field_of file 4; columns = field_of file 6 })

-- a matrix file's header, with this limit: where four bytes are there, the kind is tried before the length (02, order 3); then its sizes
unfoldable pub header_under : ℕ → List ℕ → Outcome Sizes
header_under most file = do
  refuse 1 (ltb (length file) 4)
  refuse 2 (not (eqb (field_of file 2) 32))
  refuse 1 (ltb (length file) 8)
  refuse 1 (ltb (length file) (field_of file 0))
  sizes_under most file

-- at the limit of columns
abbrev pub sizes_of : List ℕ → Outcome Sizes
sizes_of = sizes_under most_columns

abbrev pub header_of : List ℕ → Outcome Sizes
header_of = header_under most_columns

-- the matrix whose rows are packed one after another: row v begins at byte v * width n
unfoldable pub unpacked : List ℕ → Sizes → Matrix
unpacked bytes s = tabled s.rows s.columns (λ v. bit_of bytes (v * width s.columns))

-- its rows: refusals 5 and 6, or the matrix
unfoldable pub body_of : List ℕ → Sizes → Outcome Matrix
body_of file s = do
  refuse 5 (any_spare s.rows s.columns (drop 8 file))
  refuse 6 (ltb (2 ^ s.columns) (total (unpacked (drop 8 file) s)))
  gives (unpacked (drop 8 file) s)

-- a matrix file, with this limit: its refusal, or its matrix
unfoldable pub matrix_under : ℕ → List ℕ → Outcome Matrix
matrix_under most file = do
  s ← header_under most file
  body_of file s

-- at the limit of columns
abbrev pub matrix_of : List ℕ → Outcome Matrix
matrix_of = matrix_under most_columns

-- reading a file into a buffer of `room` bytes, with this limit: its matrix, whose entries are laid down
unfoldable pub read_under : ℕ → List ℕ → ℕ → Outcome Matrix
read_under most file room = do
  M ← matrix_under most file
  refuse 13 (ltb room (M.rows * M.columns))
  gives M

-- at the limit of columns
abbrev pub read_of : List ℕ → ℕ → Outcome Matrix
read_of = read_under most_columns

-- writing the header of a file of m rows and n columns, of which at most `most` are allowed, into a buffer of `room` bytes, where all of
-- that file has room
unfoldable pub write_header_under : ℕ → ℕ → ℕ → ℕ → Outcome (List ℕ)
write_header_under most m n room = do
  refuse 3 (outside most_rows m)
  refuse 3 (outside most n)
  refuse 13 (ltb room (file_length m n))
  gives (header_bytes m n)

-- at the limit of columns
abbrev pub write_header_of : ℕ → ℕ → ℕ → Outcome (List ℕ)
write_header_of = write_header_under most_columns

-- the matrix of m rows and n columns whose entries stand row after row
abbrev pub taken : ℕ → ℕ → List ℕ → Matrix
taken m n entries = record { rows = m; columns = n; entries = take (m * n) entries }

-- whether one of the first k entries is neither 0 nor 1
abbrev pub above_one : ℕ → List ℕ → Bool
above_one k entries = any k (λ i. ltb 1 (get_or entries i 0))

-- writing m rows and n columns, row after row in `entries`, with this limit, into a buffer of `room` bytes: the file that is laid down
unfoldable pub write_under : ℕ → ℕ → ℕ → List ℕ → ℕ → Outcome (List ℕ)
write_under most m n entries room = do
  refuse 3 (outside most_rows m)
  refuse 3 (outside most n)
  refuse 13 (ltb (length entries) (m * n))
  refuse 5 (above_one (m * n) entries)
  refuse 6 (ltb (2 ^ n) (total (taken m n entries)))
  refuse 13 (ltb room (file_length m n))
  gives (matrix_file (taken m n entries))

-- at the limit of columns
abbrev pub write_of : ℕ → ℕ → List ℕ → ℕ → Outcome (List ℕ)
write_of = write_under most_columns

-- ---- what a header that has passed says: the sizes are in their limits, and the rows are all there and nothing else
pub record Whole (file : List ℕ) (s : Sizes) : Type 0 where
  pub some_rows : 1 ≤ s.rows
  pub few_rows : s.rows ≤ most_rows
  pub some_columns : 1 ≤ s.columns
  pub few_columns : s.columns ≤ most_columns
  pub long : length file ≡ file_length s.rows s.columns
