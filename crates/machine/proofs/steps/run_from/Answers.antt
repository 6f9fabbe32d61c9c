-- `machine::run_from` meets its contract: what is left from here ends where the whole ends. Assumes nothing.
use Rattle.machine.specs.Turns.{going_step, going_along, going_ready, going_known, going_done}
use Rattle.machine.proofs.steps.run_from.Goals as goal

pub step_at-requires : goal.step_at-requires
step_at-requires c = going_ready c.loop-left.invariant c.loop-left-test.true

pub run_of-left-requires : goal.run_of-left-requires
run_of-left-requires c =
    going_known (going_step c.loop-left.invariant c.loop-left-test.true c.step_at.ensures)

pub run_of-left-requires-in-loop-left : goal.run_of-left-requires-in-loop-left
run_of-left-requires-in-loop-left c =
    going_known (going_along (going_step c.loop-left.invariant c.loop-left-test.true c.step_at.ensures) c.run_of-left.ensures)

pub loop-left-preserved : goal.loop-left-preserved
loop-left-preserved c =
    going_along
    (going_along (going_step c.loop-left.invariant c.loop-left-test.true c.step_at.ensures) c.run_of-left.ensures)
    c.run_of-left-in-loop-left.ensures

pub returns : goal.returns
returns c = going_done c.loop-left.invariant c.loop-left-test.false
