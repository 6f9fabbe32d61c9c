-- 02, order 3: the checks of a matrix file in 01's order, which answers are others now that the kind is tried before shortness, and what a
-- file that is cut comes to. Assumes nothing.
use Rattle.std.specs.Prelude.{ℕ, ◌<◌, not, List, ◌⊎◌, eqb, ltb}
use Rattle.std.proofs.Math.ListN.{length}
use Rattle.laws.specs.Outcome.{Outcome, refuse, ◌>>◌, ◌>>=◌}
use Rattle.fields.specs.Fields.{field_of}
use Rattle.files.specs.Matrix.{Matrix, Sizes}
use Rattle.files.specs.Files.{sizes_of, body_of}

-- a matrix file that is short: under 8 bytes, or under its length field
abbrev pub Short : List ℕ → Type 0
Short file = (length file < 8) ⊎ (length file < field_of file 0)

-- 01's order, shortness before the kind, to compare with; no contract cites it
unfoldable pub header_short_first : List ℕ → Outcome Sizes
header_short_first file = do
  refuse 1 (ltb (length file) 8)
  refuse 1 (ltb (length file) (field_of file 0))
  refuse 2 (not (eqb (field_of file 2) 32))
  sizes_of file

unfoldable pub matrix_short_first : List ℕ → Outcome Matrix
matrix_short_first file = do
  s ← header_short_first file
  body_of file s
