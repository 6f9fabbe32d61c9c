-- An accepted program file is the encoding of its header and instructions, and what acceptance means in plain words. Assumes nothing.
use Rattle.std.specs.Prelude.{ℕ, zero, suc, ◌<◌, ◌≡◌, refl, List, [], ◌∷◌, ◌⊎◌, length}
use Rattle.std.proofs.Common.{subst, inl, inr, ⊎_elim, arith}
use Rattle.laws.specs.Every.{OneOf, each_one, one_each}
use Rattle.laws.specs.Lists.{Each}
use Rattle.programs.specs.Instructions.{uses}
use Rattle.programs.specs.Reading.{Within, within_means, limits_hold}
use Rattle.programs.specs.declared.description.Program.{Program}
use Rattle.programs.specs.declared.description.Instruction.{Instruction}
use Rattle.checker.specs.Accepting.{Fits, Ready, Sets, Nowhere, Sound}

-- ---- what acceptance means in plain words
-- instruction i stands at position k
abbrev pub At : List Instruction → ℕ → Instruction → Type 0
At [] k i = ⊥
At (x ∷ xs) zero i = x ≡ i
At (x ∷ xs) (suc k) i = At xs k i

-- an instruction before position k writes register r
abbrev pub Earlier : List Instruction → ℕ → ℕ → Type 0
Earlier is k r = (j : ℕ) × (e : Instruction) × (j < k) × At is j e × OneOf (uses e).writes r

-- the instruction at position k reads register r
abbrev pub Read : List Instruction → ℕ → ℕ → Type 0
Read is k r = (i : Instruction) × At is k i × OneOf (uses i).reads r

-- an instruction sets output o
abbrev pub SetBy : List Instruction → ℕ → Type 0
SetBy is o = (k : ℕ) × (i : Instruction) × At is k i × OneOf (uses i).sets o

pub record WellFormed (p : Program) (is : List Instruction) : Type 0 where
  -- its numbers are within the limits of a program
  pub limits : Within p
  pub counted : p.count ≡ length is
  -- each operand is below its count
  pub in_range : (k : ℕ) (i : Instruction) → At is k i → Fits p i
  -- each register that an instruction reads was written by an earlier one
  pub written : (k r : ℕ) → Read is k r → Earlier is k r
  -- each output is set by some instruction
  pub all_set : (o : ℕ) → o < p.outputs → SetBy is o

-- ---- the checker's tests in plain words, and back
each_at : (P : Instruction → Type 0) (is : List Instruction) → Each P is → (k : ℕ) (i : Instruction) → At is k i → P i
each_at P [] e k i a = absurd a
each_at P (x ∷ xs) e zero i a = subst P a e.0
each_at P (x ∷ xs) e (suc k) i a = each_at P xs e.1 k i a

at_each : (P : Instruction → Type 0) (is : List Instruction) → ((k : ℕ) (i : Instruction) → At is k i → P i) → Each P is
at_each P [] f = tt
at_each P (x ∷ xs) f = (f 0 x refl, at_each P xs (λ k i a. f (suc k) i a))

sets-at : (o : ℕ) (is : List Instruction) → Sets o is → SetBy is o
sets-at o [] s = absurd s
sets-at o (x ∷ xs) (inl s) = (0, x, refl, s)
sets-at o (x ∷ xs) (inr s) =
    let t = sets-at o xs s in
    (suc t.0, t.1, t.2, t.3)

at-sets : (o : ℕ) (is : List Instruction) → SetBy is o → Sets o is
at-sets o [] (k, i, a, s) = absurd a
at-sets o (x ∷ xs) (zero, i, a, s) = inl (rw a s)
at-sets o (x ∷ xs) (suc k, i, a, s) = inr (at-sets o xs (k, i, a, s))

ready_earlier : (W : ℕ → Type 0) (is : List Instruction) → Ready W is Nowhere → (k r : ℕ) → Read is k r → W r ⊎ Earlier is k r
ready_earlier W [] e k r (i, a, o) = absurd a
ready_earlier W (x ∷ xs) e zero r (i, a, o) = inl (each_one W (uses x).reads e.0 r (rw a o))
ready_earlier W (x ∷ xs) e (suc k) r d = here (ready_earlier (λ r. OneOf (uses x).writes r ⊎ W r) xs e.1 k r d)
  where
    here : (OneOf (uses x).writes r ⊎ W r) ⊎ Earlier xs k r → W r ⊎ Earlier (x ∷ xs) (suc k) r
    here (inl (inl w)) = inr (0, x, omega arith, refl, w)
    here (inl (inr w)) = inl w
    here (inr (j, e, l, a, o)) = inr (suc j, e, omega arith, a, o)

earlier_ready : (W : ℕ → Type 0) (is : List Instruction) → ((k r : ℕ) → Read is k r → W r ⊎ Earlier is k r) → Ready W is Nowhere
earlier_ready W [] f = λ r x. absurd x
earlier_ready W (x ∷ xs) f = (
  one_each W (uses x).reads (λ r o. first r (f 0 r (x, refl, o))),
  earlier_ready (λ r. OneOf (uses x).writes r ⊎ W r) xs (λ k r d. here k r (f (suc k) r d)),
)
  where
    first : (r : ℕ) → W r ⊎ Earlier (x ∷ xs) 0 r → W r
    first r (inl w) = w
    first r (inr w) = absurd (omega (arith, w.2))

    here : (k r : ℕ) → W r ⊎ Earlier (x ∷ xs) (suc k) r → (OneOf (uses x).writes r ⊎ W r) ⊎ Earlier xs k r
    here k r (inl w) = inl (inr w)
    here k r (inr (zero, e, l, a, o)) = inl (inl (rw a o))
    here k r (inr (suc j, e, l, a, o)) = inr (j, e, omega arith, a, o)

module _ (p : Program) (is : List Instruction) where
  pub sound-formed : Sound p is → WellFormed p is
  sound-formed s = record {
    limits = within_means p s.limits;
    counted = s.counted;
    in_range = each_at (Fits p) is s.in_range;
    written = λ k r d. ⊎_elim (λ (y : ⊥). absurd y) (λ (y : Earlier is k r). y) (ready_earlier Nowhere is s.written k r d);
    all_set = λ o l. sets-at o is (s.all_set o l);
  }

  pub formed-sound : WellFormed p is → Sound p is
  formed-sound m = record {
    limits = limits_hold p m.limits;
    counted = m.counted;
    in_range = at_each (Fits p) is m.in_range;
    written = earlier_ready Nowhere is (λ k r d. inr (m.written k r d));
    all_set = λ o l. at-sets o is (m.all_set o l);
  }
