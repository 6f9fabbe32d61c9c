-- `machine::four` meets its contract: each gate passed says where the next begins. Assumes nothing.
use native.Mathlib.Omega.{arith}
use mathlib.Core.Path.{sym, ◌∙◌}
use Rattle.machine.proofs.Turns.{tried_none, tried_room, tried_more}
use Rattle.machine.proofs.steps.four.Goals as goal

pub loop-k-init : goal.loop-k-init
loop-k-init g c = tried_none c.requires

pub overflow_add-at : goal.overflow_add-at
overflow_add-at g c = let h = tried_room c.loop-k.invariant c.loop-k-test.true in omega arith

pub overflow_add-at-in-loop-k : goal.overflow_add-at-in-loop-k
overflow_add-at-in-loop-k g c = let h = tried_room c.loop-k.invariant c.loop-k-test.true in omega arith

pub field_at-requires : goal.field_at-requires
field_at-requires g c = let h = tried_room c.loop-k.invariant c.loop-k-test.true in omega arith

pub loop-k-preserved : goal.loop-k-preserved
loop-k-preserved g c =
    tried_more c.loop-k.invariant c.loop-k-test.true
    (sym c.field_at.ensures.0 ∙ c.if-field_at-KIND.false ∙ c.KIND.ensures ∙ g.met.C.Connective.numbered)

pub returns : goal.returns
returns g c e k l = c.loop-k.invariant.kinds k (omega (arith, c.loop-k-test.false))
