-- `checker::admit` meets its contract: the tests are those of the definition. Assumes nothing.
use mathlib.Core.Path.{sym, ◌∙◌}
use Rattle.fields.specs.Refusal.{passed_on}
use Rattle.programs.specs.Instructions.{decode_at}
use Rattle.checker.specs.Checks.{instruction_of}
use Rattle.checker.proofs.Admitting.{admit_gives}
use Rattle.checker.proofs.operands.admit.Goals as goal

pub returns-then-not-in_range : goal.returns-then-not-in_range
unfolding instruction_of decode_at
returns-then-not-in_range c = rw (← c.in_ok-i.ensures, sym c.in_range.ensures ∙ c.if-not-in_range.true)

pub returns-then-not-readable : goal.returns-then-not-readable
unfolding instruction_of decode_at
returns-then-not-readable c =
    rw (← c.in_ok-i.ensures, (sym c.in_range.ensures ∙ c.if-not-in_range.false), sym c.readable.ensures ∙ c.if-not-readable.true)

pub returns-in_err-i : goal.returns-in_err-i
unfolding instruction_of decode_at
returns-in_err-i c = passed_on c.from_residual.result _ c.from_residual.ensures.1 ∙ rw (← c.in_err-i.ensures)

pub returns : goal.returns
returns c =
    admit_gives _ _ _ _ _ c.in_ok-i.ensures (sym c.in_range.ensures ∙ c.if-not-in_range.false)
    (sym c.readable.ensures ∙ c.if-not-readable.false)
