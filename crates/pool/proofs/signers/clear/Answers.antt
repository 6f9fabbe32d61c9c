-- `pool::clear` meets its contract: all records are cleared in the end. Assumes nothing.
use Rattle.std.proofs.Common.{arith}
use Rattle.pool.specs.Scanning.{clearing_done}
use Rattle.pool.proofs.signers.clear.Goals as goal

pub returns : goal.returns
returns c = clearing_done c.args.signers.now c.loop-s.s-index c.loop-s.signers (omega arith) c.loop-s.invariant
