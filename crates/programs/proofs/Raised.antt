-- 02, order 8: a program's header where more inputs or instructions are allowed. Assumes nothing.
use Rattle.std.specs.Prelude.{ℕ, ◌≤◌, ◌≡◌, false, not, List, ◌↔◌, eqb, ltb, length}
use Rattle.std.proofs.Common.{arith}
use borrow.Author.Tests.{le-ltb, ltb-false, eq-eqb, eqb-true, not-false}
use Rattle.laws.specs.Raised.{Raised, raised_behind, raised_when}
use Rattle.fields.specs.Fields.{field_of}
use Rattle.programs.specs.Header.{header_length, header_kind, numbers_of, limits_under, header_under}
use Rattle.programs.specs.Raised.{Larger, LargerFile, within_raised}
use Rattle.programs.specs.declared.description.Program.{Program}

module _ (wide wider long longer : ℕ) (h : wide ≤ wider) (l : long ≤ longer) where
  module _ (p : Program) where
    limits_raised : (file : List ℕ) →
        Raised ((not (eqb (field_of file 0) header_length) ≡ false) × Larger wide wider long longer p) 3 (limits_under wide long file p)
        (limits_under wider longer file p)
    unfolding limits_under
    limits_raised file = raised_behind 4 (not (eqb (field_of file 0) header_length)) (within_raised wide wider long longer h l p _)

  pub header_raised : (file : List ℕ) →
      Raised (LargerFile wide wider long longer file) 3 (header_under wide long file) (header_under wider longer file)
  unfolding header_under
  header_raised file =
      raised_when
      (raised_behind 1 (ltb (length file) 4) (raised_behind 2 (not (eqb (field_of file 2) header_kind))
      (raised_behind 1 (ltb (length file) header_length) (limits_raised (numbers_of file) file)))) plainly
    where
      plainly : ((ltb (length file) 4 ≡ false) × ((not (eqb (field_of file 2) header_kind) ≡ false) ×
          ((ltb (length file) header_length ≡ false) × ((not (eqb (field_of file 0) header_length) ≡ false) ×
          Larger wide wider long longer (numbers_of file))))) ↔ LargerFile wide wider long longer file
      plainly = (
        (λ t. (
          ltb-false (length file) header_length t.1.1.0,
          eqb-true (field_of file 2) header_kind (not-false _ t.1.0),
          eqb-true (field_of file 0) header_length (not-false _ t.1.1.1.0),
          t.1.1.1.1,
        )),
        (λ x. (
          le-ltb (length file) 4 (omega (arith, x.0)),
          (
            rw (eq-eqb (field_of file 2) header_kind x.1),
            (le-ltb (length file) header_length x.0, (rw (eq-eqb (field_of file 0) header_length x.2), x.3)),
          ),
        )),
      )
