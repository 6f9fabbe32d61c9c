-- 01, "Matrix and walk": a matrix as a value, its rows as numbers, and which matrices are accepted. Assumes nothing.
use Rattle.std.specs.Prelude.{ℕ, ◌+◌, ◌*◌, ◌^◌, ◌≤◌, ◌<◌, ◌≡◌, Bool, ◌||◌, List, length, get_or}
use Rattle.laws.specs.Sums.{sum_to}
use Rattle.laws.specs.Digits.{number}
use Rattle.laws.specs.Lists.{blocks, upto}
use Rattle.fields.specs.Limits.{most_columns, outside}
-- m and n, the code's own type
pub use Rattle.files.specs.declared.headers.Sizes.{Sizes}

-- m is 1 to 128, and n 1 to `most_columns`
abbrev pub most_rows : ℕ
most_rows = 128

-- whether a size is outside its limit, with at most `most` columns
abbrev pub outside_under : ℕ → ℕ → ℕ → Bool
outside_under most m n = outside most_rows m || outside most n

-- at the limit of columns
abbrev pub sizes_outside : ℕ → ℕ → Bool
sizes_outside = outside_under most_columns

-- m rows of n bits, row after row
pub record Matrix : Type 0 where
  pub rows : ℕ
  pub columns : ℕ
  pub entries : List ℕ

abbrev pub sizes : Matrix → Sizes
sizes M = record { rows = M.rows; columns = M.columns }

-- the matrix of m rows and n columns whose bit in row v, column c is f v c
abbrev pub tabled : ℕ → ℕ → (ℕ → ℕ → ℕ) → Matrix
tabled m n f = record { rows = m; columns = n; entries = blocks m (λ v. upto n (f v)) }

-- the bit in row v, column c
unfoldable pub bit : Matrix → ℕ → ℕ → ℕ
bit M v c = get_or M.entries (v * M.columns + c) 0

-- p_v: row v, read with column 0 highest
unfoldable pub p : Matrix → ℕ → ℕ
p M v = number (bit M v) 0 M.columns

-- T: the sum of all p_v
unfoldable pub total : Matrix → ℕ
total M = sum_to M.rows (p M)

-- the ones of column c, in m rows of bits
unfoldable pub ones_in : (ℕ → ℕ → ℕ) → ℕ → ℕ → ℕ
ones_in bit m c = sum_to m (λ v. bit v c)

-- a matrix that is accepted: sizes in their limits, an entry of 0 or 1 in each place, and T at most 2^n
pub record Accepted (M : Matrix) : Type 0 where
  pub some_rows : 1 ≤ M.rows
  pub few_rows : M.rows ≤ most_rows
  pub some_columns : 1 ≤ M.columns
  pub few_columns : M.columns ≤ most_columns
  pub whole : length M.entries ≡ M.rows * M.columns
  pub bits : (i : ℕ) → i < M.rows * M.columns → get_or M.entries i 0 ≤ 1
  pub sum : total M ≤ 2 ^ M.columns
