-- 02, order 8: a program's header where more inputs or instructions are allowed. Assumes nothing.
use Rattle.std.specs.Prelude.{ℕ, ◌≤◌, ◌<◌, ◌≡◌, refl, Bool, true, false, not, List, ◌↔◌, ◌⊎◌, length}
use Rattle.std.proofs.Common.{sym, ◌∙◌, inl, inr, ⊎_elim, arith}
use borrow.Author.Tests.{not-true, not-false}
use Rattle.laws.specs.Tests.{never, lt-or_ge}
use Rattle.laws.specs.Outcome.{Outcome, refuse, ◌>>◌}
use Rattle.laws.specs.Raised.{Raised, raised_check}
use Rattle.fields.specs.Fields.{field_of}
use Rattle.programs.specs.Limits.{within_under}
use Rattle.programs.specs.Header.{header_length, header_kind, numbers_of, write_header_under}
use Rattle.programs.specs.Reading.{WithinUnder, under_means, under_holds}
use Rattle.programs.specs.declared.description.Program.{Program}

-- numbers within the new limits of which the inputs or the instructions are above the old ones
abbrev pub Larger : ℕ → ℕ → ℕ → ℕ → Program → Type 0
Larger wide wider long longer p = (within_under wider longer p ≡ true) × ((wide < p.inputs) ⊎ (long < p.count))

-- a file with a header of the kind and the length, and such numbers in it
abbrev pub LargerFile : ℕ → ℕ → ℕ → ℕ → List ℕ → Type 0
LargerFile wide wider long longer file =
    (header_length ≤ length file) × (field_of file 2 ≡ header_kind) × (field_of file 0 ≡ header_length) ×
    Larger wide wider long longer (numbers_of file)

-- numbers within some limits are so within others that allow as many inputs and instructions
rebound : (wide long wider longer : ℕ) (p : Program) → WithinUnder wide long p → p.inputs ≤ wider → p.count ≤ longer →
    within_under wider longer p ≡ true
rebound wide long wider longer p w i c =
    under_holds wider longer p
    (record {
      some_registers = w.some_registers;
      few_registers = w.few_registers;
      some_inputs = w.some_inputs;
      few_inputs = i;
      some_outputs = w.some_outputs;
      few_outputs = w.few_outputs;
      some_rows = w.some_rows;
      few_rows = w.few_rows;
      outputs_suit = w.outputs_suit;
      few_instructions = c;
    })

refutes : (a b : Bool) → (a ≡ true → b ≡ true) → not b ≡ true → not a ≡ true
refutes true b h e = never (sym (not-true b e) ∙ h refl)
refutes false b h e = refl

same_test : (a b : Bool) → (a ≡ true → b ≡ true) → (b ≡ true → a ≡ true) → b ≡ a
same_test true b h k = h refl
same_test false true h k = sym (k refl)
same_test false false h k = refl

module _ (wide wider long longer : ℕ) (h : wide ≤ wider) (l : long ≤ longer) where
  module _ (p : Program) where
    within_still : within_under wide long p ≡ true → within_under wider longer p ≡ true
    within_still e =
        let w = under_means wide long p e in
        rebound wide long wider longer p w (omega (arith, w.few_inputs)) (omega (arith, w.few_instructions))

    -- numbers that are not above the old limits are within the new ones as they were
    pub within_same : p.inputs ≤ wide → p.count ≤ long → within_under wider longer p ≡ within_under wide long p
    within_same i c =
        same_test (within_under wide long p) (within_under wider longer p) within_still
        (λ e. rebound wider longer wide long p (under_means wider longer p e) i c)

    -- the numbers that were outside and no longer are
    larger_iff : ((not (within_under wide long p) ≡ true) × (not (within_under wider longer p) ≡ false)) ↔ Larger wide wider long longer p
    larger_iff = ((λ e. (not-false (within_under wider longer p) e.1, above e)), (λ x. (below x.1, cong_not x.0)))
      where
        above : (not (within_under wide long p) ≡ true) × (not (within_under wider longer p) ≡ false) →
            (wide < p.inputs) ⊎ (long < p.count)
        above e = ⊎_elim inl few (lt-or_ge wide p.inputs)
          where
            few : p.inputs ≤ wide → (wide < p.inputs) ⊎ (long < p.count)
            few i =
                ⊎_elim inr
                (λ (c : p.count ≤ long). never (sym (not-true (within_under wide long p) e.0) ∙
                rebound wider longer wide long p (under_means wider longer p (not-false (within_under wider longer p) e.1)) i c))
                (lt-or_ge long p.count)

        below : (wide < p.inputs) ⊎ (long < p.count) → not (within_under wide long p) ≡ true
        below x = go (within_under wide long p) refl
          where
            go : (b : Bool) → within_under wide long p ≡ b → not b ≡ true
            go true e =
                let w = under_means wide long p e in
                absurd (⊎_elim (λ y. omega (arith, y, w.few_inputs)) (λ y. omega (arith, y, w.few_instructions)) x)
            go false e = refl

        cong_not : within_under wider longer p ≡ true → not (within_under wider longer p) ≡ false
        cong_not e = rw e

    pub within_raised : {A : Type 0} (rest : Outcome A) →
        Raised (Larger wide wider long longer p) 3 (refuse 3 (not (within_under wide long p)) >> rest)
        (refuse 3 (not (within_under wider longer p)) >> rest)
    within_raised rest =
        raised_check (not (within_under wide long p)) (not (within_under wider longer p)) rest
        (refutes (within_under wide long p) (within_under wider longer p) within_still) larger_iff

    pub write_header_raised : (room : ℕ) →
        Raised (Larger wide wider long longer p) 3 (write_header_under wide long p room) (write_header_under wider longer p room)
    unfolding write_header_under
    write_header_raised room = within_raised _
