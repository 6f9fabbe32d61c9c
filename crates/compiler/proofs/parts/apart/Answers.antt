-- `compiler::apart` meets its contract: two instructions. Assumes nothing.
use Rattle.compiler.specs.Emitting.{emitted_after}
use Rattle.compiler.proofs.parts.apart.Goals as goal

pub returns : goal.returns
returns c =
    let from = c.reg_x-from.ensures in
    emitted_after (rw (from, c.reg_y.ensures) at c.put-to.ensures) (rw (from, c.reg_y-2.ensures) at c.put.ensures)
