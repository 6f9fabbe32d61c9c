-- `machine::carry_on` meets its contract: instructions before the position are passed, and those of the budget carried out.
-- Assumes nothing.
use Rattle.machine.specs.Turns.{run_formed, run_ends}
use Rattle.machine.proofs.runs.carry_on.Goals as goal

pub run_from-requires : goal.run_from-requires
run_from-requires c =
    run_formed _ _ c.args.inputs.now c.args.registers.now c.args.outputs.now _ _ c.requires.0 _ c.skip.ensures _ c.min-steps.ensures

pub returns : goal.returns
returns c =
    run_ends _ _ c.args.inputs.now c.args.registers.now c.args.outputs.now _ _ c.requires.0 _ c.skip.ensures _
    c.min-steps.ensures _ _ c.run_from.ensures
