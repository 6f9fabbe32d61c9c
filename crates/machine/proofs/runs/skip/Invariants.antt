-- `machine::skip` meets its contract: past instruction after instruction. Assumes nothing.
use Rattle.programs.specs.Header.{header_length}
use Rattle.machine.specs.Turns.{Past}
use Rattle.machine.proofs.runs.skip.Given as goal

abbrev pub invariant-loop : goal.invariant-loop
invariant-loop l = Past l.file header_length l.count l.counter l.at
