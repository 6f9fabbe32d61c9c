-- The ways through the checks of a header: a file of under four bytes. Assumes nothing.
use Rattle.std.specs.Prelude.{ℕ, ◌<◌, ◌≡◌, List, length}
use borrow.Author.Tests.{lt-ltb}
use Rattle.laws.specs.Outcome.{refused}
use Rattle.programs.specs.Header.{header_under, header_of}
use Rattle.programs.specs.Reading.{header-short}

-- a file of four bytes or more is tried by its kind, and one under four is too short for that
module _ (file : List ℕ) where
  pub header-few : length file < 4 → refused 1 ≡ header_of file
  unfolding header_under
  header-few h = rw (lt-ltb (length file) 4 h)

-- the two ways to be too short
pub ruleset short_headers = (header-few, header-short)
