-- `checker::mark_output` meets its contract: OUTPUT alone sets one. Assumes nothing.
use Prim.Native.Nat.{ℕ}
use Rattle.std.proofs.Common.{ap}
use Rattle.std.specs.Prelude.{◌≡◌, refl, List, []}
use Rattle.programs.specs.Instructions.{uses}
use Rattle.programs.specs.declared.description.Instruction.{Instruction}
use Rattle.programs.specs.declared.description.Instruction.TheVariants.{Ones, Zero, Input, Not, And, Or, Output}
use Rattle.checker.specs.Operands.{unmarked, marked}
use Rattle.checker.proofs.operands.mark_output.Goals as goal

abbrev sets : Instruction → List ℕ
sets i = (uses i).sets

sets_none : (i : Instruction) → ((o a : ℕ) → i ≡ Output o a → ⊥) → sets i ≡ []
sets_none (Ones to) h = refl
sets_none (Zero to) h = refl
sets_none (Input to n) h = refl
sets_none (Not to a) h = refl
sets_none (And to a b) h = refl
sets_none (Or to a b) h = refl
sets_none (Output o a) h = absurd (h o a refl)

pub returns-in-Output : goal.returns-in-Output
returns-in-Output c = marked _ _ _ _ (ap sets c.in-Output.is) c.requires

pub returns-in_default : goal.returns-in_default
returns-in_default c = unmarked _ _ (sets_none _ c.in_default.not-Output)
