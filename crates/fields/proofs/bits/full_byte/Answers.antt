-- `fields::full_byte` meets its contract: the byte so far is spelt by the bits taken, and the next ones follow. Assumes nothing.
use native.Mathlib.Omega.{arith}
use mathlib.Core.Path.{ap, ◌∙◌}
use Prim.Native.Nat.{◌+◌}
use Rattle.laws.specs.Digits.{spelt_none, spelt_more, spelt_room, spelt_done}
use Rattle.fields.specs.Fields.{byte_taken, taken-next, taken_on}
use Rattle.fields.proofs.bits.full_byte.Goals as goal

pub loop-t-init : goal.loop-t-init
loop-t-init g c = (spelt_none _ _, λ i. ap (g.B.Bits.bits c.args.source.now) (omega arith))

pub overflow_mul-byte : goal.overflow_mul-byte
overflow_mul-byte g c = record { fits = omega (arith, spelt_room _ _ _ 8 _ c.loop-t-test.true c.loop-t.invariant.0) }

pub overflow_add-byte : goal.overflow_add-byte
overflow_add-byte g c =
    record { fits = omega (arith, spelt_room _ _ _ 8 _ c.loop-t-test.true c.loop-t.invariant.0, c.next_bit.ensures.small) }

pub loop-t-preserved : goal.loop-t-preserved
loop-t-preserved g c =
    let at = c.loop-t.invariant in
    let p = c.next_bit.ensures in
    let f = g.B.Bits.bits c.args.source.now in
    (spelt_more _ _ _ _ _ (taken-next f _ _ _ _ p at.1) p.small at.0, taken_on f _ _ _ _ p at.1)

pub returns : goal.returns
returns g c =
    let at = c.loop-t.invariant in
    let all = c.loop-t-test.false in
    let f = g.B.Bits.bits c.args.source.now in
    λ left h.
    byte_taken f _ _ left (spelt_done _ _ _ 8 _ (omega arith) all at.0)
    (λ i. at.1 i ∙ ap f (omega (arith, all))) h
