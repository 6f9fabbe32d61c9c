-- 01, "Matrix and walk", "Weights", with 02, order 5: the matrix of a list of weights, and the long division that finds it. Assumes
-- nothing.
use Rattle.std.specs.Prelude.{ℕ, zero, suc, ◌-◌, ◌*◌, ◌/◌, ◌^◌, ◌≤◌, min, ◌≡◌, cond, List, eqb, leb, ltb, length, get_or}
use Rattle.laws.specs.Sums.{sum_to}
use Rattle.laws.specs.Digits.{number, digit}
use Rattle.laws.specs.Outcome.{Outcome, gives, refuse, ◌>>◌}
use Rattle.fields.specs.Fields.{padded}
use Rattle.fields.specs.Limits.{outside, most_columns}
use Rattle.files.specs.Matrix.{Matrix, tabled, most_rows}
use Rattle.files.specs.Files.{matrix_file, file_length}
use Rattle.weights.specs.declared.building.Usage.{Usage}
use Rattle.weights.specs.declared.building.Usage.TheVariants.{Plain, Signed}

-- weight w of sample or distance v, as it counts in S and for its row. For signed use a distance other than 0 is that of two values, and
-- its weight counts for both (02, order 5).
unfoldable pub counted : Usage → ℕ → ℕ → ℕ
counted Plain v w = w
counted Signed zero w = w
counted Signed (suc v) w = 2 * w

-- S
unfoldable pub sum : Usage → List ℕ → ℕ
sum usage weights = sum_to (length weights) (λ v. counted usage v (get_or weights v 0))

-- the largest n-bit number not above 2^n × w / s
unfoldable pub share : ℕ → ℕ → ℕ → ℕ
share n w s = min (2 ^ n * w / s) (2 ^ n - 1)

-- the matrix whose row v is the share of weight v as it counts
unfoldable pub built : Usage → List ℕ → ℕ → Matrix
built usage weights n =
    tabled (length weights) n (λ v. digit n (share n (counted usage v (get_or weights v 0)) (sum usage weights)))

-- building with n columns, of which at most `most` are allowed, into a buffer of `room` bytes: the file that is laid down
unfoldable pub build_under : ℕ → Usage → List ℕ → ℕ → ℕ → Outcome (List ℕ)
build_under most usage weights n room = do
  refuse 3 (outside most_rows (length weights))
  refuse 3 (outside most n)
  refuse 11 (eqb (sum usage weights) 0)
  refuse 13 (ltb room (file_length (length weights) n))
  gives (matrix_file (built usage weights n))

-- at the limit of columns
abbrev pub build_of : Usage → List ℕ → ℕ → ℕ → Outcome (List ℕ)
build_of = build_under most_columns

-- ---- long division by s: each step doubles what is left, and takes s away where it fits
unfoldable pub next_rest : ℕ → ℕ → ℕ
next_rest s rest = cond (leb s (2 * rest)) (2 * rest - s) (2 * rest)

unfoldable pub next_bit : ℕ → ℕ → ℕ
next_bit s rest = cond (leb s (2 * rest)) 1 0

-- what is left after c steps
unfoldable pub rest_after : ℕ → ℕ → ℕ → ℕ
rest_after s w zero = w
rest_after s w (suc c) = next_rest s (rest_after s w c)

-- bit c of the quotient
unfoldable pub quotient : ℕ → ℕ → ℕ → ℕ
quotient s w c = next_bit s (rest_after s w c)

-- one step, and eight with their bits as a byte
pub record Stepped (s rest bit rest' : ℕ) : Type 0 where
  pub bit_is : bit ≡ next_bit s rest
  pub rest_is : rest' ≡ next_rest s rest
  pub small : bit ≤ 1
  pub left : rest' ≤ s

pub record Divided (s rest left byte rest' : ℕ) : Type 0 where
  pub byte_is : byte ≡ number (padded left (quotient s rest)) 0 8
  pub rest_is : rest' ≡ rest_after s rest 8
  pub small : rest' ≤ s
