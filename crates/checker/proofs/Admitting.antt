-- One instruction of a check: what its admission says of the registers that it reads. Assumes nothing.
use Rattle.std.specs.Prelude.{ℕ, ◌≡◌, Bool, true, not, List, drop}
use Rattle.std.proofs.Common.{sym, ap, ◌∙◌}
use Rattle.std.proofs.lemmas.Bool.{not-false}
use Rattle.laws.specs.Every.{every}
use Rattle.laws.specs.Outcome.{gives, passed, bound, gives_inj}
use Rattle.programs.specs.Instructions.{uses, decode_of, decode_at}
use Rattle.programs.specs.declared.description.Program.{Program}
use Rattle.programs.specs.declared.description.Instruction.{Instruction}
use Rattle.checker.specs.Checks.{in_range, instruction_of}

-- what an instruction that is admitted says
pub instruction_means : (p : Program) (written : ℕ → Bool) (bytes : List ℕ) (i : Instruction) → instruction_of p written bytes ≡ gives i →
    (decode_of bytes ≡ gives i) × (in_range p i ≡ true) × (every written (uses i).reads ≡ true)
unfolding instruction_of
instruction_means p written bytes i e =
    let c1 = bound (decode_of bytes) _ i e in
    let c2 = passed 8 (not (in_range p c1.0)) _ i c1.2 in
    let c3 = passed 9 (not (every written (uses c1.0).reads)) (gives c1.0) i c2.1 in
    let same : c1.0 ≡ i = gives_inj c3.1 in (
      c1.1 ∙ ap gives same,
      rw same at (not-false (in_range p c1.0) c2.0),
      rw same at (not-false (every written (uses c1.0).reads) c3.0),
    )

pub admit_gives : (file : List ℕ) (at : ℕ) (p : Program) (written : ℕ → Bool) (i : Instruction) → gives i ≡ decode_at file at →
    in_range p i ≡ true → every written (uses i).reads ≡ true → gives i ≡ instruction_of p written (drop at file)
unfolding instruction_of decode_at
admit_gives file at p written i e r w = rw (sym e, r, w)
