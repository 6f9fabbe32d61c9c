-- `walk::draw` meets its contract: before each column and each row, what is left of the walk is what the whole draws. Assumes nothing.
use borrow.Author.Rules.{rules}
use native.Mathlib.Omega.{arith}
use mathlib.Core.Path.{refl}
use Rattle.walk.specs.Turns.{start, into, pass, strike, near, after, lost, over}
use Rattle.walk.proofs.draw.Goals as goal

pub walk-init : goal.walk-init
walk-init c = (refl, search rules, start _ _ _ _ _ (search rules) (search rules))

pub loop-v-init : goal.loop-v-init
loop-v-init c = (
  c.walk.invariant.0,
  omega (arith, c.walk.invariant.1, c.bit.ensures.1),
  into _ _ _ _ _ _ _ _ (search rules) c.bit.ensures.0 c.walk.invariant.2,
)

pub returns-then-d-eq0 : goal.returns-then-d-eq0
returns-then-d-eq0 c =
    strike _ _ _ _ _ _ _ _ _ (search rules) (rw c.width-w.ensures at c.bit-in-loop-v.ensures.0) c.if-bit-eq1.true c.if-d-eq0.true
    c.loop-v.invariant.2

pub loop-v-preserved-then-bit-eq1 : goal.loop-v-preserved-then-bit-eq1
loop-v-preserved-then-bit-eq1 c = (
  c.loop-v.invariant.0,
  omega (arith, c.loop-v.invariant.1),
  near _ _ _ _ _ _ _ _ _ (search rules) (rw c.width-w.ensures at c.bit-in-loop-v.ensures.0) c.if-bit-eq1.true c.if-d-eq0.false
      c.loop-v.invariant.2,
)

pub loop-v-preserved : goal.loop-v-preserved
loop-v-preserved c = (
  c.loop-v.invariant.0,
  c.loop-v.invariant.1,
  pass _ _ _ _ _ _ _ _ _ (search rules) (rw c.width-w.ensures at c.bit-in-loop-v.ensures.0) c.bit-in-loop-v.ensures.1 c.if-bit-eq1.false
      c.loop-v.invariant.2,
)

pub returns-then-d-m : goal.returns-then-d-m
returns-then-d-m c = rw c.loop-v.invariant.0 (lost _ _ _ _ _ _ _ _ c.loop-v-test.false c.if-d-m.true c.loop-v.invariant.2)

pub walk-preserved : goal.walk-preserved
walk-preserved c = (c.loop-v.invariant.0, search rules, after _ _ _ _ _ _ _ _ c.loop-v-test.false c.loop-v.invariant.2)

pub returns-after-walk : goal.returns-after-walk
returns-after-walk c = rw c.walk.invariant.0 (over _ _ _ _ _ _ _ (search rules) c.walk.invariant.2)
