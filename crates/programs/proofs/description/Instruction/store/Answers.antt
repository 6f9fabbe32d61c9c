-- `programs::Instruction::store` meets its contract: its length, its kind and its operands are stored. Assumes nothing.
use Rattle.std.proofs.Common.{⊎_elim}
use Rattle.programs.specs.Instructions.{instruction_bytes}
use Rattle.programs.proofs.description.Instruction.store.Goals as goal

pub returns-in-Ones : goal.returns-in-Ones
unfolding instruction_bytes
returns-in-Ones c =
    let stored = c.put_fields-in-Ones.ensures in
    rw (← c.length-n.ensures, ← c.kind-k.ensures) (⊎_elim (λ e. rw e stored) (λ e. rw e stored) c.in-Ones.is)

pub returns-in-Input : goal.returns-in-Input
unfolding instruction_bytes
returns-in-Input c =
    let stored = c.put_fields-in-Input.ensures in
    rw (← c.length-n.ensures, ← c.kind-k.ensures)
    (⊎_elim (λ e. rw e stored) (λ e. ⊎_elim (λ e. rw e stored) (λ e. rw e stored) e) c.in-Input.is)

pub returns-in-And : goal.returns-in-And
unfolding instruction_bytes
returns-in-And c =
    let stored = c.put_fields.ensures in
    rw (← c.length-n.ensures, ← c.kind-k.ensures) (⊎_elim (λ e. rw e stored) (λ e. rw e stored) c.in-And.is)
