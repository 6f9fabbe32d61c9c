-- 02, order 3: the check of a program file in 01's order, which answers are others now that the kind is tried before shortness, and what a
-- file that is cut comes to. Assumes nothing.
use Rattle.std.specs.Prelude.{ℕ, ◌≤◌, ◌<◌, ◌≡◌, List, ◌↔◌}
use Rattle.std.proofs.Common.{arith}
use Rattle.std.proofs.Math.ListN.{length}
use Rattle.laws.specs.Outcome.{Outcome, refused, ◌>>=◌}
use Rattle.laws.specs.Changes.{Changed, same_iff, changed_then}
use Rattle.fields.specs.Fields.{field_of}
use Rattle.fields.specs.Foreign.{Foreign}
use Rattle.programs.specs.Header.{header_kind}
use Rattle.programs.proofs.Reading.{header-few}
use Rattle.programs.specs.Reading.{header_foreign, header-short}
use Rattle.programs.specs.Foreign.{Short, header_short_first}
use Rattle.programs.proofs.Foreign.{header_changed}
use Rattle.checker.specs.Checks.{Code, body_of, check_under, check_of}

-- 01's order, shortness before the kind, to compare with; no contract cites it
unfoldable pub check_short_first : List ℕ → Outcome Code
check_short_first file = do
  p ← header_short_first file
  body_of file p

-- ---- the answers that changed
module _ (file : List ℕ) where
  -- of a program file: 1 became 2 where it is foreign and short, and every other file is answered as before
  pub check_changed : Changed (Foreign header_kind file × Short file) 1 2 (check_short_first file) (check_of file)
  unfolding check_short_first check_under
  check_changed = changed_then (header_changed file) (body_of file)

  -- so the files that are answered as before are exactly those that are not both
  pub check_same : (check_of file ≡ check_short_first file) ↔ (Foreign header_kind file × Short file → ⊥)
  check_same = same_iff check_changed (λ e. omega arith)

-- ---- the order, in plain words
module _ (file : List ℕ) where
  pub check_few : length file < 4 → check_of file ≡ refused 1
  unfolding check_under
  check_few h = rw (← (header-few file h))

  pub check_foreign : Foreign header_kind file → check_of file ≡ refused 2
  unfolding check_under
  check_foreign f = rw (← (header_foreign file f.0 f.1))

  pub check_short : 4 ≤ length file → field_of file 2 ≡ header_kind → Short file → check_of file ≡ refused 1
  unfolding check_under
  check_short a k s = rw (← (header-short file a k s))
