-- `cumulative::number_at` meets its contract: the number so far is that of the bits passed. Assumes nothing.
use borrow.Author.Rules.{rules}
use native.Mathlib.Omega.{arith}
use mathlib.Core.Path.{◌≡◌}
use Prim.Native.Nat.{◌+◌}
use Rattle.laws.specs.Digits.{spelt_none, spelt_more}
use Rattle.cumulative.proofs.exporting.number_at.Goals as goal

pub loop-c-init : goal.loop-c-init
loop-c-init c = (search rules, spelt_none _ _)

pub loop-c-preserved : goal.loop-c-preserved
loop-c-preserved c =
    let at = c.loop-c in
    let place : 0 + at.c ≡ at.c = omega arith in
    (search rules, spelt_more _ _ _ _ _ (rw place c.bit.ensures.0) (omega (arith, c.bit.ensures.1)) at.invariant.1)
