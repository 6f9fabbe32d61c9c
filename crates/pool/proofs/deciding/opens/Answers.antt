-- `pool::opens` meets its contract: sizes first, then the sums. Assumes nothing.
use Rattle.std.proofs.Common.{sym, ◌∙◌, ap}
use Rattle.laws.specs.Outcome.{refuse}
use Rattle.fields.specs.Refusal.{passed_on}
use Rattle.pool.specs.Ways.{opens_unfit, opens_when}
use Rattle.pool.proofs.deciding.opens.Goals as goal

pub returns-in_err-a : goal.returns-in_err-a
returns-in_err-a c = passed_on c.from_residual.result _ c.from_residual.ensures.1 ∙
    opens_unfit c.args.words c.args.signers.now _ c.in_err-a.ensures

pub returns-then-a-words : goal.returns-then-a-words
returns-then-a-words c = sym (opens_when c.args.words c.args.signers.now _ c.in_ok-a.ensures ∙ ap (refuse 3) c.if-a-words.true)

pub returns : goal.returns
returns c = sym (opens_when c.args.words c.args.signers.now _ c.in_ok-a.ensures ∙ ap (refuse 3) c.if-a-words.false)
