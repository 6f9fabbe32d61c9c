-- `fields::put_field` meets its contract. Assumes nothing.
use native.Mathlib.Omega.{arith}
use mathlib.Core.Path.{◌≡◌, sym}
use Prim.Native.Nat.{◌/◌, ◌%◌}
use Rattle.fields.specs.Fields.{field-laid, stored_at, stored-none}
use Rattle.fields.proofs.records.put_field.Goals as goal

pub returns-then-bytes-lt2 : goal.returns-then-bytes-lt2
returns-then-bytes-lt2 c = stored-none _ _ _ (omega arith)

pub returns-then-bytes-at : goal.returns-then-bytes-at
returns-then-bytes-at c = stored-none _ _ _ (omega arith)

pub returns : goal.returns
returns c =
    let high : c.args.x / 256 % 256 ≡ c.args.x / 256 = omega arith in
    rw (c.to_le_bytes.ensures, field-laid c.args.bytes.now c.args.at _ _ (omega arith), high) (sym (stored_at _ _ _ (omega arith)))
