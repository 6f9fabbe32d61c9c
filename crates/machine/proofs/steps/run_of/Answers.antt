-- `machine::run_of` meets its contract: what is left from here ends where the whole ends. Assumes nothing.
use native.Mathlib.Omega.{arith}
use mathlib.Core.Path.{sym, ◌∙◌}
use Rattle.machine.specs.Turns.{Next, along_none, along_room, along_known}
use Rattle.machine.proofs.Turns.{next_gate, gate_done}
use Rattle.machine.proofs.steps.run_of.Given.{Over}
use Rattle.machine.proofs.steps.run_of.Goals as goal
use Rattle.machine.proofs.steps.run_of.Goals.{Then-field_at-KIND}

-- where the kind has been tried, a gate is next
turn : (g : Over) (c : Then-field_at-KIND g) → Next c.loop-left.invariant g.C.Connective.which
turn g c =
    record {
      some = c.loop-left-test.true;
      kind = sym c.field_at.ensures.0 ∙ c.if-field_at-KIND.true ∙ c.KIND.ensures ∙ g.met.C.Connective.numbered;
    }

pub loop-left-init : goal.loop-left-init
loop-left-init g c = along_none (along_known c.fours-left.ensures)

pub overflow_add-left : goal.overflow_add-left
overflow_add-left g c = let h = along_room c.loop-left.invariant c.loop-left-test.true in omega arith

pub field_at-requires : goal.field_at-requires
field_at-requires g c = let h = along_room c.loop-left.invariant c.loop-left-test.true in omega arith

pub gate_at-requires : goal.gate_at-requires
gate_at-requires g c = next_gate (turn g (goal.at.gate_at-requires g c).Then-field_at-KIND)

pub overflow_add-left-in-loop-left : goal.overflow_add-left-in-loop-left
overflow_add-left-in-loop-left g c =
    let h = (next_gate (turn g (goal.at.overflow_add-left-in-loop-left g c).Then-field_at-KIND)).room in omega arith

pub loop-left-preserved : goal.loop-left-preserved
loop-left-preserved g c = gate_done (turn g (goal.at.loop-left-preserved g c).Then-field_at-KIND) c.gate_at.ensures
