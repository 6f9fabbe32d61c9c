-- How far a header came, check by check, in the order of 02, order 3. Assumes nothing.
use Rattle.std.specs.Prelude.{◌≤◌, ◌<◌, ◌≡◌, List, ℕ}
use borrow.Author.Tests.{lt-ltb, le-ltb, eq-eqb, ne_eqb}
use Rattle.std.proofs.Math.ListN.{length}
use Rattle.laws.specs.Outcome.{refused}
use Rattle.fields.specs.Fields.{field_of}
use Rattle.files.specs.Files.{header_under, header_of}

-- ---- the header: how far it came
module _ (file : List ℕ) where
  pub header-few : length file < 4 → refused 1 ≡ header_of file
  unfolding header_under
  header-few a = rw (lt-ltb (length file) 4 a)

  module _ (a : 4 ≤ length file) where
    pub header_kind : (field_of file 2 ≡ 32 → ⊥) → refused 2 ≡ header_of file
    unfolding header_under
    header_kind k = rw (le-ltb (length file) 4 a, ne_eqb (field_of file 2) 32 k)

    module _ (k : field_of file 2 ≡ 32) where
      pub header-short : length file < 8 → refused 1 ≡ header_of file
      unfolding header_under
      header-short b = rw (le-ltb (length file) 4 a, eq-eqb (field_of file 2) 32 k, lt-ltb (length file) 8 b)

      pub header_cut : 8 ≤ length file → length file < field_of file 0 → refused 1 ≡ header_of file
      unfolding header_under
      header_cut b c =
          rw (
            le-ltb (length file) 4 a,
            eq-eqb (field_of file 2) 32 k,
            le-ltb (length file) 8 b,
            lt-ltb (length file) (field_of file 0) c,
          )
