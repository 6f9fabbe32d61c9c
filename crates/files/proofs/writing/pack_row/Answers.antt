-- `files::pack_row` meets its contract: the entries are bits, and are packed. Assumes nothing.
use native.Mathlib.Omega.{arith}
use mathlib.Core.Path.{◌≡◌, ◌∙◌}
use Prim.Native.Nat.{◌+◌}
use Rattle.fields.specs.Fields.{packed_whole, packed-eq}
use Rattle.files.proofs.writing.pack_row.Goals as goal

pub returns : goal.returns
returns c =
    c.pack_bits.ensures ∙
    (packed_whole _ _ _ c.requires.1 ∙
    packed-eq _ _ _ (λ i h.
    let place : 0 + i ≡ i = omega arith in
    rw place (omega (arith, c.requires.2 i h))))
