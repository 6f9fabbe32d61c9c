-- `pool::stands` meets its contract: sizes first, then the sums. Assumes nothing.
use Rattle.std.proofs.Common.{sym, ◌∙◌, ap, Bool}
use Rattle.laws.specs.Outcome.{Outcome, mapped, refuse}
use Rattle.fields.specs.Refusal.{passed_on}
use Rattle.pool.specs.Ways.{stands_unfit, stands_when}
use Rattle.pool.specs.declared.signers.Sums.{Sums}
use Rattle.pool.proofs.deciding.stands.Goals as goal

-- the sums, or 3
abbrev told : Sums → Bool → Outcome Sums
told a t = mapped (λ u. a) (refuse 3 t)

pub returns-in_err-a : goal.returns-in_err-a
returns-in_err-a c = passed_on c.from_residual.result _ c.from_residual.ensures.1 ∙
    stands_unfit c.args.words c.args.signers.now _ c.in_err-a.ensures

pub returns-then-a-words : goal.returns-then-a-words
returns-then-a-words c = sym (stands_when c.args.words c.args.signers.now _ c.in_ok-a.ensures ∙ ap (told c.in_ok-a.a) c.if-a-words.true)

pub returns : goal.returns
returns c = sym (stands_when c.args.words c.args.signers.now _ c.in_ok-a.ensures ∙ ap (told c.in_ok-a.a) c.if-a-words.false)
