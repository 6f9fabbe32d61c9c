-- What a call makes of an operation's answer is what its contract says of the operation's outcome. Assumes nothing.
use Rattle.std.specs.Prelude.{ℕ, ◌≡◌, refl, Option, None, Some, unwrap_or}
use Rattle.std.proofs.Common.{◌∙◌, ap, sym}
use Rattle.laws.specs.Outcome.{Outcome, refused, gives, mapped, mapped-refused, mapped_id}
use Rattle.walk.specs.Walk.{row_answer}
use Rattle.lanes.specs.Samples.{code}
use Rattle.corkhollow.specs.Calls.{returned, told}

-- what is returned and told of a part of an outcome is returned and told of the outcome
pub returned_part : {A B : Type 0} (f : A → B) (o : Outcome A) → returned (mapped f o) ≡ returned o
unfolding returned
returned_part f (refused n) = refl
returned_part f (gives a) = refl

pub told_part : {A B C : Type 0} (f : A → B) (g : B → C) (o : Outcome A) (old : C) → told g (mapped f o) old ≡ told (λ a. g (f a)) o old
unfolding told
told_part f g (refused n) old = refl
told_part f g (gives a) old = refl

-- An operation's answer is a part, f, of an outcome o: what a call makes of it, case by case.
module _ {A B : Type 0} (f : A → B) (o : Outcome A) where
  module _ (b : B) (e : gives b ≡ mapped f o) where
    pub none_returned : 0 ≡ returned o
    unfolding returned
    none_returned = ap returned e ∙ returned_part f o

    pub given_told : {C : Type 0} (g : B → C) (old : C) → g b ≡ told (λ a. g (f a)) o old
    unfolding told
    given_told g old = ap (λ (x : Outcome B). told g x old) e ∙ told_part f g o old

  module _ (n : ℕ) (e : refused n ≡ mapped f o) where
    pub number_returned : n ≡ returned o
    unfolding returned
    number_returned = ap returned e ∙ returned_part f o

    pub left_told : {C : Type 0} (h : A → C) (old : C) → old ≡ told h o old
    unfolding told
    left_told h old = rw (mapped-refused f o n e)

-- an answer that is the whole outcome
pub whole : {A : Type 0} (x o : Outcome A) → x ≡ o → x ≡ mapped (λ a. a) o
whole x o e = e ∙ sym (mapped_id o)

-- a row, or 255 for a miss
pub row_told : (row : Option ℕ) → unwrap_or row 255 ≡ code (row_answer row)
row_told None = refl
row_told (Some v) = refl
