-- `next_bit` of `cumulative::Digits` meets the contract of `Bits`: the highest bit that is left is taken. Assumes nothing.
use Rattle.cumulative.specs.Importing.{digit_taken}
use Rattle.cumulative.proofs.importing.DigitsBits.next_bit.Goals as goal

pub returns : goal.returns
returns c = digit_taken _ _ _ _ c.saturating_sub-self.ensures (cc)
