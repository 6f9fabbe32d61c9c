-- `lanes::digits` meets its contract: x is spelt by the bits of b bytes. Assumes nothing.
use Prim.Native.Nat.{◌*◌}
use Rattle.laws.specs.Digits.{Spelt}
use Rattle.fields.specs.Fields.{bit_of}
use Rattle.lanes.proofs.slicing.digits.Given as goal

abbrev pub invariant-loop-byte : goal.invariant-loop-byte
invariant-loop-byte l = Spelt (bit_of l.strings l.at) 0 (8 * l.byte-index) l.x
