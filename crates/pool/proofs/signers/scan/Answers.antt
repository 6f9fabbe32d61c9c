-- `pool::scan` meets its contract: each turn adds one signer up. Assumes nothing.
use Rattle.std.proofs.Common.{arith}
use Rattle.pool.specs.Scanning.{going_start, going_turn, going_done}
use Rattle.pool.proofs.signers.scan.Goals as goal

pub loop-s-init : goal.loop-s-init
loop-s-init c = going_start c.args.signers.now c.default-sums.result c.default-sums.ensures

pub loop-s-preserved : goal.loop-s-preserved
loop-s-preserved c =
    going_turn c.args.signers.now c.loop-s.s-index c.loop-s.sums c.with-sums.result (omega arith) (omega arith)
    c.loop-s.invariant c.with-sums.ensures

pub returns : goal.returns
returns c = going_done _ _ _ c.requires (omega arith) c.loop-s.invariant
