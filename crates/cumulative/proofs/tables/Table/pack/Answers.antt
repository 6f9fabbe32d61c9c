-- `cumulative::Table::pack` meets its contract: the bits of the number are packed. Assumes nothing.
use mathlib.Core.Path.{◌∙◌}
use Rattle.fields.specs.Fields.{packed_whole}
use Rattle.cumulative.proofs.tables.Table.pack.Goals as goal

pub returns : goal.returns
returns c = c.pack_bits.ensures ∙ packed_whole _ _ _ c.requires
