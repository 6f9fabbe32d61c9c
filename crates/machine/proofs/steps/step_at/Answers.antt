-- `machine::step_at` meets its contract: where an instruction is known to stand, its kind tells the rest. Assumes nothing.
use Rattle.machine.specs.Steps.{conjunction, disjunction}
use Rattle.machine.proofs.GateSteps.{does_gate}
use Rattle.machine.proofs.steps.step_at.Goals as goal

pub returns-in-5 : goal.returns-in-5
returns-in-5 c = does_gate (record { ready = c.requires; kind = c.field_at-kind.ensures.0 }) conjunction c.in-5.is c.gate_at.ensures

pub returns-in-6 : goal.returns-in-6
returns-in-6 c = does_gate (record { ready = c.requires; kind = c.field_at-kind.ensures.0 }) disjunction c.in-6.is c.gate_at-in-6.ensures
