-- `lanes::exchange` meets its contract: the blocks below row k are exchanged. Assumes nothing.
use borrow.Author.Rules.{rules}
use native.Mathlib.Omega.{arith}
use Prim.Native.Nat.{◌-◌, ◌*◌, ◌≤◌}
use Rattle.lanes.specs.Transposing.{side, block_in, block_next, exchanged_more, exchanged_done}
use Rattle.lanes.proofs.transposing.exchange.Goals as goal

pub loop-k-preserved : goal.loop-k-preserved
loop-k-preserved c =
    let round = c.requires.0 in (
      block_in round _ c.loop-k.invariant.1 c.loop-k-test.true,
      block_next _ _ c.loop-k.invariant.1,
      exchanged_more round _ _ _ _ c.loop-k.invariant.1 c.loop-k.invariant.2 c.exchange_block.ensures,
    )

-- the last block ends with the table
pub returns-2 : goal.returns-2
returns-2 c =
    let round = c.requires.0 in
    let inside = block_in round _ c.loop-k.invariant.1 c.loop-k-test.true in
    let last : side - c.loop-k.k ≤ 2 * c.args.d = search rules in
    exchanged_done _ _ _ _ inside (omega arith)
    (exchanged_more round _ _ _ _ c.loop-k.invariant.1 c.loop-k.invariant.2 c.exchange_block.ensures)
