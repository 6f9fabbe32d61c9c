-- `machine::run_from` meets its contract: what is left from here ends where the whole ends. Assumes nothing.
use Rattle.machine.specs.Turns.{Going}
use Rattle.machine.proofs.steps.run_from.Given as goal

abbrev pub invariant-loop-left : goal.invariant-loop-left
invariant-loop-left l =
    Going l.file l.inputs l.initial.registers l.initial.outputs l.initial.left.more l.initial.left.at
    l.registers l.outputs l.left.more l.left.at

abbrev pub decreases-loop-left : goal.decreases-loop-left
decreases-loop-left l = l.left.more
