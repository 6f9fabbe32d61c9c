-- `programs::put_fields` meets its contract: the fields passed are stored. Assumes nothing.
use Rattle.std.proofs.Common.{◌≡◌, ◌/◌, ◌%◌, ◌∙◌, ℕ, get_or, arith, take_all}
use Rattle.laws.specs.Lay.{laid_none}
use Rattle.programs.specs.Records.{record_bytes, field_next}
use Rattle.programs.proofs.storing.put_fields.Goals as goal

pub loop-i-init : goal.loop-i-init
unfolding record_bytes
loop-i-init c = laid_none _ _

pub loop-i-preserved : goal.loop-i-preserved
loop-i-preserved c =
    let x : ℕ = get_or c.args.fields.now c.loop-i.i 0 in
    let small = c.type_inv.fields c.loop-i.i in
    let high : x / 256 % 256 ≡ x / 256 = omega arith in
    field_next _ _ _ _ _ _ c.loop-i-test.true c.requires (c.to_le_bytes.ensures ∙ rw high) c.loop-i.invariant

pub returns : goal.returns
returns c = rw (take_all c.loop-i.i c.args.fields.now c.loop-i-test.false) at c.loop-i.invariant.is
