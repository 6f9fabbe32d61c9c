-- `lanes::fill` meets its contract: j rows are laid. Assumes nothing.
use native.Mathlib.Omega.{arith}
use mathlib.Core.Path.{◌∙◌}
use Rattle.laws.specs.Lists.{length-upto}
use Rattle.laws.specs.Lay.{upto-none, laid_store, upto_done, lay-is, lay-whole}
use Rattle.lanes.proofs.slicing.fill.Goals as goal

pub loop-j-init : goal.loop-j-init
loop-j-init c = upto-none _ _ _

pub loop-j-preserved : goal.loop-j-preserved
loop-j-preserved c = laid_store _ _ _ _ _ _ _ (omega arith) (omega arith) c.row.ensures c.loop-j.invariant

pub returns : goal.returns
returns c =
    upto_done _ _ _ _ _ _ c.loop-j.auto.j-end c.loop-j-test.false c.loop-j.invariant ∙
    (lay-is _ _ ∙ lay-whole _ _ (simp length-upto (omega arith)))
