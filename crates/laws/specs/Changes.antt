-- An outcome that was another before: where a condition holds one refusal became another, and everywhere else nothing changed. Assumes
-- nothing.
use Rattle.std.specs.Prelude.{ℕ, ◌≡◌, refl, Bool, true, false, List, ◌↔◌}
use Rattle.std.proofs.Common.{sym, ap, ◌∙◌}
use Rattle.laws.specs.Tests.{never}
use Rattle.laws.specs.Outcome.{Outcome, refused, gives, refuse, ◌>>◌, ◌>>=◌, refused_inj, no_result}

-- where P holds refusal i became j, and where it does not the outcome is what it was
pub record Changed (P : Type 0) (i j : ℕ) {A : Type 0} (before now : Outcome A) : Type 0 where
  pub there : P → (before ≡ refused i) × (now ≡ refused j)
  pub elsewhere : (P → ⊥) → now ≡ before

-- an operation on a file that goes on from what a reader gives of it, and sees nothing else of the file
pub record Through {A B : Type 0} (reader : List ℕ → Outcome A) (operation : List ℕ → Outcome B) : Type 0 where
  pub rest : A → Outcome B
  pub goes_on : (file : List ℕ) → operation file ≡ (reader file >>= rest)

-- ---- what a change says
module _ {P : Type 0} {i j : ℕ} {A : Type 0} {before now : Outcome A} (c : Changed P i j before now) where
  -- the outcomes that did not change are exactly those where P does not hold
  pub same_iff : (i ≡ j → ⊥) → (now ≡ before) ↔ (P → ⊥)
  same_iff d = ((λ e h. d (sym (refused_inj (sym (c.there h).1 ∙ (e ∙ (c.there h).0))))), c.elsewhere)

  -- no result changed, and none came or went
  pub result_iff : (a : A) → (now ≡ gives a) ↔ (before ≡ gives a)
  result_iff a = (
    (λ e. sym (c.elsewhere (λ h. no_result j a (sym (c.there h).1 ∙ e))) ∙ e),
    (λ e. c.elsewhere (λ h. no_result i a (sym (c.there h).0 ∙ e)) ∙ e),
  )

  -- the same holds of whatever goes on from the result
  pub changed_then : {B : Type 0} (rest : A → Outcome B) → Changed P i j (before >>= rest) (now >>= rest)
  changed_then rest = record {
    there = λ h. (ap (λ (o : Outcome A). o >>= rest) (c.there h).0, ap (λ (o : Outcome A). o >>= rest) (c.there h).1);
    elsewhere = λ h. ap (λ (o : Outcome A). o >>= rest) (c.elsewhere h);
  }

  -- and under a condition that says the same
  pub changed_when : {Q : Type 0} → P ↔ Q → Changed Q i j before now
  changed_when q = record { there = λ h. c.there (q.1 h); elsewhere = λ h. c.elsewhere (λ x. h (q.0 x)) }

-- ---- operations that go on from a reader
module _ {A B : Type 0} {reader : List ℕ → Outcome A} {operation : List ℕ → Outcome B} (t : Through reader operation) (file : List ℕ) where
  -- what the reader refuses they refuse alike
  pub through_refused : {n : ℕ} → reader file ≡ refused n → operation file ≡ refused n
  through_refused e = t.goes_on file ∙ ap (λ (o : Outcome A). o >>= t.rest) e

  -- and they changed as it did: before, they went on alike from what the reader gave before
  pub through_changed : {P : Type 0} {i j : ℕ} {before : Outcome A} → Changed P i j before (reader file) →
      Changed P i j (before >>= t.rest) (operation file)
  through_changed c = rw (t.goes_on file) (changed_then c t.rest)

-- ---- two checks that change places
-- of two checks the second is tried before the first: where both fail the answer is now the second's, except where the first fails in a way
-- that is still tried before
pub tried-before : {A : Type 0} (i j : ℕ) (still first second : Bool) (rest : Outcome A) → (still ≡ true → first ≡ true) →
    Changed ((still ≡ false) × (second ≡ true) × (first ≡ true)) i j (refuse i first >> (refuse j second >> rest))
    (refuse i still >> (refuse j second >> (refuse i first >> rest)))
tried-before i j true true second rest h = record { there = λ p. never (sym p.0); elsewhere = λ p. refl }
tried-before i j true false second rest h = never (h refl)
tried-before i j false true true rest h = record { there = λ p. (refl, refl); elsewhere = λ p. absurd (p (refl, refl, refl)) }
tried-before i j false true false rest h = record { there = λ p. never p.1; elsewhere = λ p. refl }
tried-before i j false false true rest h = record { there = λ p. never p.2; elsewhere = λ p. refl }
tried-before i j false false false rest h = record { there = λ p. never p.1; elsewhere = λ p. refl }
