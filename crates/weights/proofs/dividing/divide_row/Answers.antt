-- `weights::divide_row` meets its contract: the bits of the quotient are packed. Assumes nothing.
use mathlib.Core.Path.{◌∙◌}
use Rattle.fields.specs.Fields.{packed_whole}
use Rattle.weights.proofs.dividing.divide_row.Goals as goal

pub returns : goal.returns
returns c = c.pack_bits.ensures ∙ packed_whole _ _ _ c.requires.2
