-- `compiler::keep` meets its contract: one instruction for each distance passed. Assumes nothing.
use Rattle.compiler.specs.Emitting.{parts_none, parts-space, parts_more}
use Rattle.compiler.proofs.parts.keep.Goals as goal

pub loop-i-init : goal.loop-i-init
loop-i-init c = parts_none c.requires.0

pub put-to-requires : goal.put-to-requires
put-to-requires c =
    record { fits = (parts-space c.loop-i.invariant c.loop-i-test.true).fits }

pub loop-i-preserved : goal.loop-i-preserved
loop-i-preserved c =
    parts_more c.loop-i.invariant c.loop-i-test.true (rw (c.reg_x-x.ensures, c.reg_y-y.ensures) at c.put-to.ensures)
