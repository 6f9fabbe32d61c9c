-- 02, order 3: the checks of a matrix file in 01's order, which answers are others now that the kind is tried before shortness, and what a
-- file that is cut comes to. Assumes nothing.
use Rattle.std.specs.Prelude.{ℕ, ◌≤◌, ◌<◌, ◌≡◌, Bool, true, ◌||◌, List, ◌⊎◌, ◌↔◌, ltb, take}
use Rattle.std.proofs.Common.{◌∙◌, inr, arith, lt-ltb, ltb-true, length-take-le}
use Rattle.std.proofs.Math.Logic.{inl, ⊎_map}
use Rattle.std.proofs.Math.ListN.{length}
use Rattle.laws.specs.Tests.{either, lt-or_ge}
use Rattle.laws.specs.Outcome.{refused, gives, refuse-either}
use Rattle.laws.specs.Changes.{Changed, same_iff, changed_then}
use Rattle.fields.specs.Fields.{field_of, field-front}
use Rattle.fields.specs.Foreign.{Foreign, kind-first}
use Rattle.files.specs.Matrix.{Matrix, sizes}
use Rattle.files.specs.Files.{sizes_of, header_under, header_of, body_of, matrix_under, matrix_of}
use Rattle.files.specs.Checks.{Header, header-says, matrix_read}
use Rattle.files.specs.Foreign.{Short, header_short_first, matrix_short_first}
use Rattle.files.proofs.Order.{header-few, header_kind, header-short, header_cut}

-- ---- the answers that changed
module _ (file : List ℕ) where
  abbrev under_eight : Bool
  under_eight = ltb (length file) 8

  abbrev under_field : Bool
  under_field = ltb (length file) (field_of file 0)

  short-is : ((under_eight || under_field) ≡ true) ↔ Short file
  short-is = (
    (λ e. ⊎_map (ltb-true (length file) 8) (ltb-true (length file) (field_of file 0)) ((either under_eight under_field).0 e)),
    (λ h. (either under_eight under_field).1 (⊎_map (lt-ltb (length file) 8) (lt-ltb (length file) (field_of file 0)) h)),
  )

  pub header_changed : Changed (Foreign 32 file × Short file) 1 2 (header_short_first file) (header_of file)
  unfolding header_short_first header_under
  header_changed =
      rw (refuse-either 1 under_eight under_field (sizes_of file), refuse-either 1 under_eight under_field)
      (kind-first 32 file (Short file) (under_eight || under_field) short-is (λ h. inl (omega arith)) (sizes_of file))

  -- of a matrix file: 1 became 2 where it is foreign and short, and every other file is answered as before
  pub matrix_changed : Changed (Foreign 32 file × Short file) 1 2 (matrix_short_first file) (matrix_of file)
  unfolding matrix_short_first matrix_under
  matrix_changed = changed_then header_changed (body_of file)

  -- so the files that are answered as before are exactly those that are not both
  pub matrix-same : (matrix_of file ≡ matrix_short_first file) ↔ (Foreign 32 file × Short file → ⊥)
  matrix-same = same_iff matrix_changed (λ e. omega arith)

-- ---- the order, in plain words
module _ (file : List ℕ) where
  pub matrix-few : length file < 4 → matrix_of file ≡ refused 1
  unfolding matrix_under
  matrix-few h = rw (← (header-few file h))

  pub matrix_foreign : Foreign 32 file → matrix_of file ≡ refused 2
  unfolding matrix_under
  matrix_foreign f = rw (← (header_kind file f.0 f.1))

  pub matrix-short : 4 ≤ length file → field_of file 2 ≡ 32 → Short file → matrix_of file ≡ refused 1
  unfolding matrix_under
  matrix-short a k s = rw (← (cut (lt-or_ge (length file) 8) s))
    where
      cut : (length file < 8) ⊎ (8 ≤ length file) → Short file → refused 1 ≡ header_of file
      cut (inl l) s = header-short file a k l
      cut (inr l) (inl h) = absurd (omega arith)
      cut (inr l) (inr h) = header_cut file a k l h

-- ---- an accepted matrix file is 1 wherever it is cut
pub matrix_cut : (file : List ℕ) (M : Matrix) → matrix_of file ≡ gives M → (n : ℕ) → n < length file → matrix_of (take n file) ≡ refused 1
matrix_cut file M e n h = cut (lt-or_ge n 4)
  where
    long : length (take n file) ≡ n
    long = length-take-le n file (omega arith)

    says : Header file (sizes M)
    says = header-says file (sizes M) (matrix_read file M e).header

    cut : (n < 4) ⊎ (4 ≤ n) → matrix_of (take n file) ≡ refused 1
    cut (inl l) = matrix-few (take n file) (omega (arith, long))
    cut (inr l) =
        matrix-short (take n file) (omega (arith, long)) (field-front n file 2 (omega arith) ∙ says.kind_is)
        (inr (rw (long, field-front n file 0 (omega arith)) (omega (arith, says.length_is, says.sized.long))))
