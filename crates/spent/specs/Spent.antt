-- 02, order 1: what the walks of a matrix file on 64 strings have used together. Assumes nothing.
use Rattle.std.specs.Prelude.{ℕ, List}
use Rattle.laws.specs.Sums.{sum_to}
use Rattle.laws.specs.Outcome.{Outcome, gives, ◌>>◌, ◌>>=◌}
use Rattle.fields.specs.Limits.{most_columns}
use Rattle.fields.specs.Strings.{strings_under}
use Rattle.files.specs.Matrix.{Matrix}
use Rattle.files.specs.Files.{matrix_under}
use Rattle.walk.specs.Walk.{drawn, used}
use Rattle.lanes.specs.Slicing.{lanes, string_bits}

-- the columns that the walk of a matrix on string j has used
abbrev pub used_on : Matrix → List ℕ → ℕ → ℕ
used_on M strings j = used M.columns (drawn M (string_bits M.columns strings j))

-- where at most `most` columns are allowed: the matrix's checks, then those of 64 strings as slicing takes them, then what the walks on
-- them have used, added up
unfoldable pub spent_under : ℕ → List ℕ → List ℕ → Outcome ℕ
spent_under most file strings = do
  M ← matrix_under most file
  strings_under most lanes M.columns strings
  gives (sum_to lanes (used_on M strings))

-- at the limit of columns
abbrev pub spent_of : List ℕ → List ℕ → Outcome ℕ
spent_of = spent_under most_columns
