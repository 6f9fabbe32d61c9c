-- `lanes::slice` meets its contract: the checks of the strings, then that of the words, then the words are laid. Assumes nothing.
use mathlib.Core.Path.{sym, ◌∙◌}
use Rattle.fields.specs.Refusal.{passed_on}
use Rattle.laws.specs.Lists.{length-upto}
use Rattle.laws.specs.Lay.{lay-is}
use Rattle.laws.specs.Outcome.{ends-refused, ends-given}
use Rattle.lanes.specs.Slicing.{slice_refused, slice_short, slice_gives, strings-there}
use Rattle.lanes.proofs.slicing.slice.Goals as goal

pub returns-in_err-check_strings : goal.returns-in_err-check_strings
returns-in_err-check_strings c =
    rw (passed_on c.from_residual.result _ c.from_residual.ensures.1)
    (ends-refused _ _ _ _ _ (slice_refused _ _ _ _ c.in_err-check_strings.ensures))

pub returns-then-words-columns : goal.returns-then-words-columns
returns-then-words-columns c =
    ends-refused _ _ _ _ _ (slice_short _ _ _ c.in_ok-check_strings.ensures c.if-words-columns.true)

pub put_words-requires : goal.put_words-requires
put_words-requires c = strings-there _ _ _ c.in_ok-check_strings.ensures c.if-words-columns.false

pub returns : goal.returns
returns c =
    ends-given _ _ _ _ _ _ _ (slice_gives _ _ _ c.in_ok-check_strings.ensures c.if-words-columns.false) (sym (length-upto _ _))
    (c.put_words.ensures ∙ lay-is _ _)
