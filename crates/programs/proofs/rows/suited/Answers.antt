-- `programs::suited` meets its contract. Assumes nothing.
use Rattle.std.specs.Prelude.{not}
use Rattle.std.proofs.Common.{ap, arith}
use Rattle.programs.specs.Reading.{bits-few, suits}
use Rattle.programs.proofs.rows.suited.Goals as goal

pub overflow_add-result : goal.overflow_add-result
overflow_add-result c = omega (arith, c.row_bits.ensures, bits-few c.args.rows)

pub returns : goal.returns
returns c = suits _ _ _ _ (ap not c.outside.ensures) c.row_bits.ensures
