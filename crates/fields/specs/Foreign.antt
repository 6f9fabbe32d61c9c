-- 02, order 3: files whose first record is of another kind, and what it changes that the kind is tried before shortness. Assumes nothing.
use Rattle.std.specs.Prelude.{ℕ, ◌≤◌, ◌<◌, ◌≡◌, Bool, true, false, not, List, ◌↔◌, eqb, ltb, length, take}
use Rattle.std.proofs.Common.{sym, ap, ◌∙◌, arith, le-ltb, eq-eqb, ne_eqb, ltb-true, ltb-false, length-take}
use Rattle.laws.specs.Tests.{never}
use Rattle.laws.specs.Outcome.{Outcome, refuse, ◌>>◌}
use Rattle.laws.specs.Changes.{Changed, changed_when, tried-before}
use Rattle.fields.specs.Fields.{field_of, field-front}

-- a file of four bytes or more whose first record is not of the kind expected
abbrev pub Foreign : ℕ → List ℕ → Type 0
Foreign kind file = (4 ≤ length file) × (field_of file 2 ≡ kind → ⊥)

-- cut at four bytes or later, it stays foreign
pub foreign_cut : (kind : ℕ) (file : List ℕ) (n : ℕ) → 4 ≤ n → Foreign kind file → Foreign kind (take n file)
foreign_cut kind file n h f = (
  omega (arith, length-take n file, f.0),
  (λ e. f.1 (sym (field-front n file 2 (omega arith)) ∙ e)),
)

-- whatever makes a file short, so long as being under four bytes does: with the kind tried before that, the answers that change are those
-- to foreign files that are short, and there 1 becomes 2
module _ {A : Type 0} (kind : ℕ) (file : List ℕ) (Short : Type 0) (short : Bool) (is : (short ≡ true) ↔ Short)
    (few : length file < 4 → Short) (rest : Outcome A) where
  abbrev under_four : Bool
  under_four = ltb (length file) 4

  abbrev other_kind : Bool
  other_kind = not (eqb (field_of file 2) kind)

  foreign_is : ((under_four ≡ false) × (other_kind ≡ true) × (short ≡ true)) ↔ (Foreign kind file × Short)
  foreign_is = (
    (λ t. ((ltb-false (length file) 4 t.0, λ e. never (ap not (sym (eq-eqb (field_of file 2) kind e)) ∙ t.1)), is.0 t.2)),
    (λ h. (le-ltb (length file) 4 h.0.0, ap not (ne_eqb (field_of file 2) kind h.0.1), is.1 h.1)),
  )

  pub kind-first : Changed (Foreign kind file × Short) 1 2 (refuse 1 short >> (refuse 2 other_kind >> rest))
      (refuse 1 under_four >> (refuse 2 other_kind >> (refuse 1 short >> rest)))
  kind-first =
      changed_when (tried-before 1 2 under_four short other_kind rest (λ e. is.1 (few (ltb-true (length file) 4 e)))) foreign_is
