-- `machine::run_of` meets its contract: what is left from here ends where the whole ends. Assumes nothing.
use Rattle.machine.specs.Turns.{Along}
use Rattle.machine.proofs.steps.run_of.Given as goal

abbrev pub invariant-loop-left : goal.invariant-loop-left
invariant-loop-left g l = Along l.file l.initial.left.more l.initial.left.at l.initial.registers l.left.more l.left.at l.registers

abbrev pub decreases-loop-left : goal.decreases-loop-left
decreases-loop-left g l = l.left.more
