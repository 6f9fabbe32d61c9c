-- `pool::refill` meets its contract: records that stand are cleared. Assumes nothing.
use Rattle.laws.specs.Outcome.{ends-refused}
use Rattle.fields.specs.Refusal.{passed_on}
use Rattle.pool.specs.Ways.{refill_refused, refill_clears, clear_ends}
use Rattle.pool.proofs.pools.refill.Goals as goal

pub returns-in_err-stands : goal.returns-in_err-stands
returns-in_err-stands c = rw (passed_on c.from_residual.result _ c.from_residual.ensures.1)
    (ends-refused _ _ _ _ _ (refill_refused c.args.words c.args.signers.now _ c.in_err-stands.ensures))

pub returns : goal.returns
returns c = rw c.clear.ensures
    (clear_ends c.args.signers.now _ (refill_clears c.args.words c.args.signers.now _ c.in_ok-stands.ensures))
