-- `fields::bit` meets its contract. Assumes nothing.
use borrow.Author.Rules.{rules}
use native.Mathlib.Omega.{arith}
use Rattle.fields.specs.Fields.{bit_beyond, bit_read}
use Rattle.laws.specs.Digits.{and_one}
use Rattle.fields.proofs.bits.bit.Goals as goal

pub returns-then-bytes-at : goal.returns-then-bytes-at
returns-then-bytes-at c = (bit_beyond _ _ _ (omega arith), search rules)

pub returns-then-bytes-at-2 : goal.returns-then-bytes-at-2
returns-then-bytes-at-2 c = (bit_beyond _ _ _ (omega arith), search rules)

pub returns : goal.returns
returns c = (bit_read _ _ _, rw and_one (omega arith))
