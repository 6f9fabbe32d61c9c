-- `lanes::digits` meets its contract: x is spelt by the bits of the bytes before. Assumes nothing.
use native.Mathlib.Omega.{arith}
use Prim.Native.Nat.{ℕ, ◌+◌, ◌*◌}
use mathlib.Core.Path.{◌≡◌, ap, ◌∙◌}
use Rattle.laws.specs.Digits.{number, spelt_none}
use Rattle.fields.specs.Fields.{bit_of}
use Rattle.lanes.specs.Blocks.{bytes-long, bytes_are, byte_more}
use Rattle.lanes.proofs.slicing.digits.Goals as goal

pub loop-byte-init : goal.loop-byte-init
loop-byte-init c = spelt_none _ _

pub loop-byte-preserved : goal.loop-byte-preserved
loop-byte-preserved c =
    let at = c.loop-byte in
    let long = bytes-long _ c.args.at c.args.m c.requires.1 in
    let byte = c.type_inv.strings (c.args.at + at.byte-index) in
    rw (bytes_are _ c.args.at c.args.m at.byte-index (omega (arith, long, c.loop-byte-test.true)))
    (byte_more _ _ _ _ (omega (arith, long, c.loop-byte-test.true)) byte.fits at.invariant)

pub returns : goal.returns
returns c =
    let at = c.loop-byte in
    let long = bytes-long _ c.args.at c.args.m c.requires.1 in
    let all : at.byte-index ≡ c.args.m = omega (arith, long, at.auto.byte-index-end, c.loop-byte-test.false) in
    at.invariant.is ∙ ap (λ (b : ℕ). number (bit_of c.args.strings.now c.args.at) 0 (8 * b)) all
