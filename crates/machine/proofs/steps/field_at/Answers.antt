-- `machine::field_at` meets its contract: a byte is below 256. Assumes nothing.
use native.Mathlib.Omega.{arith}
use Prim.Native.Nat.{◌+◌}
use Rattle.fields.specs.Fields.{field_of}
use Rattle.machine.proofs.steps.field_at.Goals as goal

pub returns : goal.returns
unfolding field_of
returns c =
    let at = c.args.at in
    let low = c.type_inv.file at in
    let high = c.type_inv.file (at + 1) in
    (omega arith, omega arith)
