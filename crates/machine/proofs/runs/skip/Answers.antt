-- `machine::skip` meets its contract: past instruction after instruction. Assumes nothing.
use native.Mathlib.Omega.{arith}
use Rattle.machine.specs.Turns.{past_room, past_fits, past_turn}
use Rattle.machine.proofs.runs.skip.Goals as goal

pub field_at-at-requires : goal.field_at-at-requires
field_at-at-requires c =
    let h = past_room c.loop.invariant (omega arith) c.requires.0 in
    omega arith

pub overflow_add-at : goal.overflow_add-at
overflow_add-at c =
    let h = past_fits c.loop.invariant (omega arith) c.requires.0 c.field_at-at.ensures.0 in
    omega arith

pub loop-preserved : goal.loop-preserved
loop-preserved c = past_turn c.loop.invariant (omega arith) c.requires.0 c.field_at-at.ensures.0
