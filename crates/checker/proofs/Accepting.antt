-- A sound program is accepted. Assumes nothing.
use Rattle.std.specs.Prelude.{ℕ, ◌<◌, ◌≡◌, Bool, true, not, List, [], ◌∷◌, ◌++◌, ◌⊎◌, length, drop}
use Rattle.std.proofs.Common.{ap, ◌∙◌, inl, inr, ⊎_elim, drop_at}
use Rattle.std.proofs.Math.Logic.{⊎_map}
use Rattle.laws.specs.Every.{each-every, OneOf}
use Rattle.laws.specs.Sums.{any-all}
use Rattle.laws.specs.Lists.{Each}
use Rattle.laws.specs.Outcome.{gives}
use Rattle.programs.specs.Instructions.{uses, length_of, instruction_bytes}
use Rattle.programs.specs.Header.{header_length, header_bytes, code_bytes, program_file}
use Rattle.programs.specs.Reading.{length_instruction, header-long}
use Rattle.programs.specs.Inverse.{decode_written, header-written}
use Rattle.programs.specs.declared.description.Program.{Program}
use Rattle.programs.specs.declared.description.Instruction.{Instruction}
use Rattle.checker.specs.Checks.{also, instruction_of, code_of, nothing, check_under, check_of}
use Rattle.checker.specs.Operands.{range-holds}
use Rattle.checker.specs.Accepting.{Fits, Ready, Sets, Nowhere, Sound, also-holds}

-- the instructions, where those before them wrote and set what passes the tests
code-accepted : (is : List Instruction) (p : Program) (W : ℕ → Type 0) (written set : ℕ → Bool) → ((r : ℕ) → W r → written r ≡ true) →
    ((o : ℕ) → o < p.outputs → Sets o is ⊎ (set o ≡ true)) → Each (Fits p) is → Ready W is Nowhere →
    code_of (length is) p written set (code_bytes is) ≡ gives is
unfolding code_bytes code_of instruction_of
code-accepted [] p W written set w s f e =
    rw (any-all p.outputs (λ o. not (set o)) (λ o l. ap not (⊎_elim (λ (x : ⊥). absurd x) (λ (x : set o ≡ true). x) (s o l))))
code-accepted (i ∷ is) p W written set w s f e =
    rw (
      decode_written i (code_bytes is),
      range-holds p i f.0,
      each-every written W (uses i).reads w e.0,
      drop_at (instruction_bytes i) (code_bytes is) (length_of i) (length_instruction i),
      code-accepted is p (λ r. OneOf (uses i).writes r ⊎ W r) (also written (uses i).writes) (also set (uses i).sets)
          (λ r x. also-holds written (uses i).writes r (⊎_map (λ y. y) (w r) x)) (λ o l. later o (s o l)) f.1 e.1,
    )
  where
    later : (o : ℕ) → (OneOf (uses i).sets o ⊎ Sets o is) ⊎ (set o ≡ true) → Sets o is ⊎ (also set (uses i).sets o ≡ true)
    later o (inl (inl x)) = inr (also-holds set (uses i).sets o (inl x))
    later o (inl (inr x)) = inl x
    later o (inr x) = inr (also-holds set (uses i).sets o (inr x))

-- a sound program is accepted, and the checker reads it as it is
module _ (p : Program) (is : List Instruction) (s : Sound p is) where
  behind-header : code_of p.count p nothing nothing (drop header_length (header_bytes p ++ code_bytes is)) ≡ gives is
  behind-header =
      rw (drop_at (header_bytes p) (code_bytes is) header_length (header-long p))
      (ap (λ (n : ℕ). code_of n p nothing nothing (code_bytes is)) s.counted ∙
      code-accepted is p Nowhere nothing nothing (λ r x. absurd x) (λ o l. inl (s.all_set o l)) s.in_range s.written)

  pub accepted : check_of (program_file p is) ≡ gives (record { program = p; instructions = is })
  unfolding check_under program_file
  accepted = rw (header-written p (code_bytes is) s.limits, behind-header)
