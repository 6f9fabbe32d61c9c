-- `compiler::measure` meets its contract. Assumes nothing.
use Rattle.std.proofs.Common.{◌∙◌}
use Rattle.programs.specs.Reading.{bits-among}
use Rattle.compiler.specs.EmittingProgram.{Counts, countable, measured}
use Rattle.compiler.proofs.sizes.measure.Goals as goal
use Rattle.compiler.proofs.sizes.measure.Goals.{After-count_columns-count}

counted : (c : After-count_columns-count) → Counts c.args.bytes.now c.args.m c.args.n c.row_bits.result c.count_columns-count.result
counted c =
    record {
      k_is = c.row_bits.ensures ∙ bits-among _ c.requires.some_rows c.requires.few_rows;
      columns = rw c.width.ensures at c.count_columns-count.ensures;
    }

pub program_length-length-requires : goal.program_length-length-requires
program_length-length-requires c = countable (counted (goal.at.program_length-length-requires c).After-count_columns-count) c.requires

pub returns-clause-measured : goal.returns-clause-measured
returns-clause-measured c =
    measured (counted (goal.at.returns-clause-measured c).After-count_columns-count) c.program_length-length.ensures
