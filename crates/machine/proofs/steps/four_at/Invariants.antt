-- `machine::four_at` meets its contract: gate after gate. Assumes nothing.
use Rattle.std.specs.Prelude.{◌≡◌}
use Rattle.machine.specs.Steps.{gates_words}
use Rattle.machine.proofs.steps.four_at.Given as goal

abbrev pub invariant-loop-k : goal.invariant-loop-k
invariant-loop-k g l = l.registers ≡ gates_words g.C.Connective.which l.file l.at l.k l.initial.registers
