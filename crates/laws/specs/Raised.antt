-- An outcome under a limit, and under a larger one. Assumes nothing.
use Rattle.std.specs.Prelude.{ℕ, ◌≡◌, refl, Bool, true, false, ◌↔◌, ◌⊎◌}
use Rattle.std.proofs.Common.{sym, ap, ◌∙◌, inl, inr, ⊎_elim}
use Rattle.laws.specs.Tests.{never}
use Rattle.laws.specs.Outcome.{Outcome, refused, gives, refuse, ◌>>◌, ◌>>=◌, refused_inj, no_result, bind_eq}

-- a limit whose refusal is i was raised: where P holds the outcome was that refusal, and everywhere else it is what it was
pub record Raised (P : Type 0) (i : ℕ) {A : Type 0} (before now : Outcome A) : Type 0 where
  pub there : P → before ≡ refused i
  pub only : (now ≡ before) ⊎ P

-- ---- what that says
module _ {P : Type 0} {i : ℕ} {A : Type 0} {before now : Outcome A} (r : Raised P i before now) where
  pub raised_elsewhere : (P → ⊥) → now ≡ before
  raised_elsewhere h = ⊎_elim (λ e. e) (λ (p : P). absurd (h p)) r.only

  -- every result stays
  pub raised_result : (a : A) → before ≡ gives a → now ≡ gives a
  raised_result a e = raised_elsewhere (λ p. no_result i a (sym (r.there p) ∙ e)) ∙ e

  -- and so does every refusal but i
  pub raised_refusal : (j : ℕ) → (j ≡ i → ⊥) → before ≡ refused j → now ≡ refused j
  raised_refusal j d e = raised_elsewhere (λ p. d (refused_inj (sym e ∙ r.there p))) ∙ e

  -- the same under a condition that says the same
  pub raised_when : {Q : Type 0} → P ↔ Q → Raised Q i before now
  raised_when q = record { there = λ x. r.there (q.1 x); only = ⊎_elim inl (λ (p : P). inr (q.0 p)) r.only }

-- ---- how it comes about, check by check
module _ {P : Type 0} {i : ℕ} {A : Type 0} where
  -- one check, which refuses less than it did: what it no longer refuses is where P holds
  pub raised_check : (old new : Bool) (rest : Outcome A) → (new ≡ true → old ≡ true) → ((old ≡ true) × (new ≡ false)) ↔ P →
      Raised P i (refuse i old >> rest) (refuse i new >> rest)
  raised_check true true rest h p = record { there = λ x. refl; only = inl refl }
  raised_check true false rest h p = record { there = λ x. refl; only = inr (p.0 (refl, refl)) }
  raised_check false true rest h p = never (h refl)
  raised_check false false rest h p = record { there = λ x. never (p.1 x).0; only = inl refl }

  -- behind a check that stays: it must have passed
  pub raised_behind : (k : ℕ) (test : Bool) {before now : Outcome A} → Raised P i before now →
      Raised ((test ≡ false) × P) i (refuse k test >> before) (refuse k test >> now)
  raised_behind k true r = record { there = λ p. never (sym p.0); only = inl refl }
  raised_behind k false r = record { there = λ p. r.there p.1; only = ⊎_elim inl (λ (p : P). inr (refl, p)) r.only }

  -- in front of checks that stay
  pub raised_front : {before now : Outcome (Unit {0})} → Raised P i before now → (rest : Outcome A) →
      Raised P i (before >> rest) (now >> rest)
  raised_front {before} r rest =
      record {
        there = λ p. ap (λ (o : Outcome (Unit {0})). o >> rest) (r.there p);
        only = ⊎_elim (λ s. inl (ap (λ (o : Outcome (Unit {0})). o >> rest) s)) inr r.only;
      }

  -- and in what goes on from a result, which is no other where there was one
  pub raised_then : {B : Type 0} (rest rest' : A → Outcome B) {before now : Outcome A} → Raised P i before now →
      ((a : A) → before ≡ gives a → rest' a ≡ rest a) → Raised P i (before >>= rest) (now >>= rest')
  raised_then rest rest' {before} {now} r h =
      record {
        there = λ p. ap (λ (o : Outcome A). o >>= rest) (r.there p);
        only = ⊎_elim (λ s. inl (ap (λ (o : Outcome A). o >>= rest') s ∙ bind_eq before rest' rest h)) inr r.only;
      }
