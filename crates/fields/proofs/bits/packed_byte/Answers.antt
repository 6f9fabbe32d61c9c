-- `fields::packed_byte` meets its contract: all 8 bits are left, or not. Assumes nothing.
use Rattle.fields.proofs.bits.packed_byte.Goals as goal

pub returns-then-left-ge8 : goal.returns-then-left-ge8
returns-then-left-ge8 g c = c.full_byte.ensures _ c.if-left-ge8.true
