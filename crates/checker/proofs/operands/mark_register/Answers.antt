-- `checker::mark_register` meets its contract: each kind but OUTPUT writes one register. Assumes nothing.
use Prim.Native.Nat.{ℕ}
use Rattle.std.proofs.Common.{ap, ⊎_elim}
use Rattle.std.specs.Prelude.{◌≡◌, List, [], ◌∷◌}
use Rattle.programs.specs.Instructions.{uses}
use Rattle.programs.specs.declared.description.Instruction.{Instruction}
use Rattle.checker.specs.Operands.{unmarked, marked}
use Rattle.checker.proofs.operands.mark_register.Goals as goal

abbrev writes : Instruction → List ℕ
writes i = (uses i).writes

pub returns-in-Ones : goal.returns-in-Ones
returns-in-Ones c =
    let writes_it : writes c.args.i ≡ c.in-Ones.to ∷ [] =
    ⊎_elim (ap writes) (⊎_elim (ap writes) (⊎_elim (λ x. ap writes x.1) (⊎_elim (λ x. ap writes x.1)
    (⊎_elim (λ x. ap writes x.2) (λ x. ap writes x.2))))) c.in-Ones.is in
    marked _ _ _ _ writes_it c.requires

pub returns-in-Output : goal.returns-in-Output
returns-in-Output c = unmarked _ _ (ap writes c.in-Output.is)
