-- `fields::padded_bit` meets its contract. Assumes nothing.
use native.Mathlib.Omega.{arith}
use mathlib.Core.Path.{refl}
use Rattle.fields.proofs.bits.padded_bit.Goals as goal

pub returns-then-t-left : goal.returns-then-t-left
returns-then-t-left g c =
    let taken = c.next_bit.ensures in
    record { small = taken.small; below = λ h. (taken.first, taken.rest); beyond = λ h. absurd (omega (arith, c.if-t-left.true)) }

pub returns-else-t-left : goal.returns-else-t-left
returns-else-t-left g c =
    record { small = omega arith; below = λ h. absurd (omega (arith, c.if-t-left.false)); beyond = λ h. (refl, λ i. refl) }
