-- `fields::pack_bits` meets its contract: the bytes so far are laid, and the bits that are left follow. Assumes nothing.
use native.Mathlib.Omega.{arith}
use mathlib.Core.Path.{refl, ap}
use Prim.Native.Nat.{◌+◌}
use Rattle.laws.specs.Lay.{upto-none, laid_store, upto_filled}
use Rattle.fields.specs.Fields.{byte-next, bytes_on}
use Rattle.fields.proofs.bits.pack_bits.Goals as goal

pub loop-byte-init : goal.loop-byte-init
loop-byte-init g c = (omega arith, λ i. ap (g.B.Bits.bits c.args.source.now) (omega arith), upto-none _ _ _)

pub loop-byte-preserved : goal.loop-byte-preserved
loop-byte-preserved g c =
    let at = c.loop-byte.invariant in
    let p = c.packed_byte.ensures in
    let f = g.B.Bits.bits c.args.source.now in (
      omega (arith, at.0),
      bytes_on _ f _ _ _ _ _ p at.0 at.1,
      laid_store 0 _ _ _ _ _ _ (omega arith) (omega arith) (byte-next _ f _ _ _ _ _ p at.0 at.1) at.2,
    )

pub returns : goal.returns
returns g c = upto_filled _ _ _ _ (omega arith) (omega arith) c.loop-byte.invariant.2
