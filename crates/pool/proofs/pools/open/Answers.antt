-- `pool::open` meets its contract: records that open are cleared. Assumes nothing.
use Rattle.laws.specs.Outcome.{mapped-refused, ends-refused}
use Rattle.fields.specs.Refusal.{passed_on}
use Rattle.pool.specs.Ways.{open_clears, clear_ends}
use Rattle.pool.proofs.pools.open.Goals as goal

pub returns-in_err-opens : goal.returns-in_err-opens
returns-in_err-opens c = rw (passed_on c.from_residual.result _ c.from_residual.ensures.1)
    (ends-refused _ _ _ _ _ (mapped-refused _ _ _ c.in_err-opens.ensures))

pub returns : goal.returns
returns c = rw c.clear.ensures
    (clear_ends c.args.signers.now _ (open_clears c.args.words c.args.signers.now c.in_ok-opens.ensures))
