-- `lanes::sign_bit` meets its contract. Assumes nothing.
use native.Mathlib.Omega.{arith}
use Rattle.laws.specs.Digits.{and_one}
use Rattle.laws.specs.Words.{bit_at_read}
use Rattle.lanes.proofs.sampling.sign_bit.Goals as goal

pub returns : goal.returns
returns c = (bit_at_read _ _, rw and_one (omega arith))
