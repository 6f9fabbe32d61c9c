-- 02, order 7: a string for a wanted sample. Assumes nothing.
use Rattle.std.specs.Prelude as Prelude
use Rattle.std.specs.Prelude.{ℕ, ◌^◌, Bool, true, false, List, [], leb, ltb}
use Rattle.std.proofs.Math.Option.{Option, none, some}
use Rattle.laws.specs.Smallest.{smallest}
use Rattle.laws.specs.Outcome.{Outcome, gives, refuse, ◌>>◌, ◌>>=◌}
use Rattle.fields.specs.Fields.{width}
use Rattle.fields.specs.Limits.{most_columns}
use Rattle.files.specs.Matrix.{Matrix}
use Rattle.files.specs.Files.{matrix_under}
use Rattle.walk.specs.Walk.{drawn, hits}
use Rattle.walk.specs.Numbers.{number_string}
use Rattle.walk.specs.Packed.{packed_string}

-- the smallest of the n-bit numbers, b_0 highest, on whose string the walk hits row v, if there is one
unfoldable pub number_for : Matrix → ℕ → Option ℕ
number_for M v = smallest (2 ^ M.columns) (λ x. hits v (drawn M (number_string M.columns x)))

-- the string of a number, packed like a matrix row
abbrev pub packed_number : ℕ → Option ℕ → Option (List ℕ)
packed_number n none = none
packed_number n (some x) = some (packed_string n (number_string n x))

-- a string for a row, into a buffer of `room` bytes, where at most `most` columns are allowed: the matrix's checks, then the row's number,
-- then the room, also where the row is all zero; then the string, or none
unfoldable pub wanted_under : ℕ → List ℕ → ℕ → ℕ → Outcome (Option (List ℕ))
wanted_under most file row room = do
  M ← matrix_under most file
  refuse 3 (leb M.rows row)
  refuse 13 (ltb room (width M.columns))
  gives (packed_number M.columns (number_for M row))

-- at the limit of columns
abbrev pub wanted_of : List ℕ → ℕ → ℕ → Outcome (Option (List ℕ))
wanted_of = wanted_under most_columns

-- whether there is one, and what is laid down: none writes nothing
abbrev pub string_found : Option (List ℕ) → Bool
string_found none = false
string_found (some bytes) = true

abbrev pub string_bytes : Option (List ℕ) → List ℕ
string_bytes none = []
string_bytes (some bytes) = bytes

-- ---- the first set column of a row, or that it has none, as the code answers
abbrev pub column_of : Prelude.Option ℕ → Option ℕ
column_of (Prelude.Some c) = some c
column_of Prelude.None = none
