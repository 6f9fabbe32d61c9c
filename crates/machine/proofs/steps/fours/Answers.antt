-- `machine::fours` meets its contract: what is left from here ends where the whole ends. Assumes nothing.
use native.Mathlib.Omega.{arith}
use Rattle.machine.specs.Turns.{NextFour, four_stand}
use Rattle.machine.proofs.Turns.{gates_stand, gates_done, gates-room}
use Rattle.machine.proofs.steps.fours.Given.{Over}
use Rattle.machine.proofs.steps.fours.Goals as goal
use Rattle.machine.proofs.steps.fours.Goals.{Then-four}

-- where the four kinds have been tried, four gates are next
turn : (g : Over) (c : Then-four g) → NextFour c.loop-left.invariant g.C.Connective.which
turn g c = record { some = c.loop-left-test.true; kinds = c.four.ensures c.if-four.true }

pub four-requires : goal.four-requires
four-requires g c = four_stand c.loop-left.invariant c.loop-left-test.true

pub four_at-requires : goal.four_at-requires
four_at-requires g c = gates_stand (turn g (goal.at.four_at-requires g c).Then-four)

pub overflow_add-left : goal.overflow_add-left
overflow_add-left g c = let h = gates-room (turn g (goal.at.overflow_add-left g c).Then-four) in omega arith

pub loop-left-preserved : goal.loop-left-preserved
loop-left-preserved g c =
    rw c.four_at.ensures (gates_done (turn g (goal.at.loop-left-preserved g c).Then-four) 4 (omega arith))
