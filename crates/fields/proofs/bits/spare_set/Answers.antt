-- `fields::spare_set` meets its contract: the spare bits are the low bits of the last byte. Assumes nothing.
use Rattle.fields.specs.Fields.{spare_read}
use Rattle.fields.proofs.bits.spare_set.Goals as goal

pub returns : goal.returns
returns c = rw c.width-w.ensures (spare_read _ _ _ c.requires.0)
