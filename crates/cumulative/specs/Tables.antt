-- 02, order 4: cumulative tables, and what importing one, exporting one and looking a number up in one come to. Assumes nothing.
use Rattle.std.specs.Prelude.{ℕ, zero, suc, ◌+◌, ◌-◌, ◌^◌, Bool, not, cond, ◌||◌, ◌&&◌, List, eqb, leb, ltb, length, get_or}
use Rattle.laws.specs.Sums.{sum_to, any}
use Rattle.laws.specs.Digits.{digit}
use Rattle.laws.specs.Lists.{upto}
use Rattle.laws.specs.Outcome.{Outcome, gives, refuse, ◌>>◌, ◌>>=◌}
use Rattle.fields.specs.Limits.{most_columns, outside}
use Rattle.files.specs.Matrix.{Matrix, tabled, p}
use Rattle.files.specs.Files.{file_length, matrix_file, matrix_under}
use Rattle.walk.specs.Walk.{Answer, sample, missed}
use Rattle.cumulative.specs.declared.exporting.Extent.{Extent}

-- ---- tables
-- 2 to 129 numbers, and n from 1 to 63
abbrev pub most_numbers : ℕ
most_numbers = 129

abbrev pub most_bits : ℕ
most_bits = 63

abbrev pub sizes_unfit : ℕ → ℕ → Bool
sizes_unfit numbers n = ltb numbers 2 || ltb most_numbers numbers || outside most_bits n

-- T[v]
abbrev pub entry : List ℕ → ℕ → ℕ
entry T v = get_or T v 0

-- m, the rows that a table stands for: it has one number more
abbrev pub rows_of : List ℕ → ℕ
rows_of T = length T - 1

-- T[m]
abbrev pub last_of : List ℕ → ℕ
last_of T = entry T (rows_of T)

-- row v as a number: the difference of neighbours
unfoldable pub difference : List ℕ → ℕ → ℕ
difference T v = entry T (v + 1) - entry T v

-- whether a number is below the one before it
unfoldable pub falls : List ℕ → Bool
falls T = any (rows_of T) (λ v. ltb (entry T (v + 1)) (entry T v))

-- whether the first number is not 0, one falls, or the last is above 2^n
abbrev pub uncumulative : List ℕ → ℕ → Bool
uncumulative T n = not (eqb (entry T 0) 0) || falls T || ltb (2 ^ n) (last_of T)

-- whether a difference is 2^n, which no row of n bits can hold
unfoldable pub fills : List ℕ → ℕ → Bool
fills T n = any (rows_of T) (λ v. eqb (difference T v) (2 ^ n))

-- the checks of a table's numbers
unfoldable pub numbers_of : List ℕ → ℕ → Outcome (Unit {0})
numbers_of T n = do
  refuse 15 (uncumulative T n)
  refuse 16 (fills T n)

-- ---- import
-- the matrix of a table: row v is the difference of neighbours, in n bits
unfoldable pub imported : List ℕ → ℕ → Matrix
imported T n = tabled (rows_of T) n (λ v. digit n (difference T v))

-- importing with n columns into a buffer of `room` bytes: the file that is laid down
unfoldable pub import_of : List ℕ → ℕ → ℕ → Outcome (List ℕ)
import_of T n room = do
  refuse 3 (sizes_unfit (length T) n)
  numbers_of T n
  refuse 13 (ltb room (file_length (rows_of T) n))
  gives (matrix_file (imported T n))

-- ---- export
-- a table, with the n that it goes with
pub record Table : Type 0 where
  pub numbers : List ℕ
  pub columns : ℕ

-- the table of a matrix: T[v] is the sum of the rows before row v
unfoldable pub sums : Matrix → List ℕ
sums M = upto (M.rows + 1) (λ v. sum_to v (p M))

abbrev pub exported : Matrix → Table
exported M = record { numbers = sums M; columns = M.columns }

-- exporting into a buffer of `room` numbers, where a matrix has at most `most` columns: the table that is laid down
unfoldable pub export_under : ℕ → List ℕ → ℕ → Outcome Table
export_under most file room = do
  M ← matrix_under most file
  refuse 3 (ltb most_bits M.columns)
  refuse 13 (ltb room (M.rows + 1))
  gives (exported M)

-- at the limit of columns
abbrev pub export_of : List ℕ → ℕ → Outcome Table
export_of = export_under most_columns

-- ---- lookup
-- whether T[s] < r and r ≤ T[s+1]
abbrev pub holds : List ℕ → ℕ → ℕ → Bool
holds T r s = ltb (entry T s) r && leb r (entry T (s + 1))

-- the s below m that passes the test, or a miss; of several, which no table that is taken has, the largest
unfoldable pub the_one : ℕ → (ℕ → Bool) → Answer
the_one zero test = missed
the_one (suc m) test = cond (test m) (sample m) (the_one m test)

unfoldable pub found : List ℕ → ℕ → Answer
found T r = the_one (rows_of T) (holds T r)

-- looking r up in a table with n columns
unfoldable pub lookup_of : List ℕ → ℕ → ℕ → Outcome Answer
lookup_of T n r = do
  refuse 3 (sizes_unfit (length T) n)
  refuse 3 (outside (2 ^ n) r)
  numbers_of T n
  gives (found T r)

-- ---- what is told of a table: how many numbers, and n
abbrev pub extent : Table → Extent
extent t = record { numbers = length t.numbers; columns = t.columns }
