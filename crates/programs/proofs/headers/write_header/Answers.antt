-- `programs::write_header` meets its contract: each return is a way through the checks. Assumes nothing.
use Rattle.programs.specs.Limits.{within}
use Rattle.programs.specs.Reading.{header-long, write_header-outside, write_header-short, write_header-gives}
use mathlib.Core.Path.{◌≡◌, sym, ◌∙◌}
use mathlib.Core.Bool.{true}
use Rattle.laws.specs.Lay.{lay-is}
use Rattle.laws.specs.Outcome.{ends-refused, ends-given}
use Rattle.programs.proofs.headers.write_header.Goals as goal
use Rattle.programs.proofs.headers.write_header.Goals.{Else-not-within}

-- past the first check
inside : (c : Else-not-within) → within c.args.p ≡ true
inside c = sym c.within.ensures ∙ c.if-not-within.false

pub returns-then-not-within : goal.returns-then-not-within
returns-then-not-within c = ends-refused _ _ _ _ _ (write_header-outside _ _ (sym c.within.ensures ∙ c.if-not-within.true))

pub returns-then-out-lt-HEADER : goal.returns-then-out-lt-HEADER
returns-then-out-lt-HEADER c =
    ends-refused _ _ _ _ _ (write_header-short _ _ (inside (goal.at.returns-then-out-lt-HEADER c).Else-not-within) c.if-out-lt-HEADER.true)

pub returns : goal.returns
returns c =
    ends-given _ _ _ _ _ _ _ (write_header-gives _ _ (inside (goal.at.returns c).Else-not-within) c.if-out-lt-HEADER.false)
    (sym (header-long _))
    (c.store_header.ensures ∙ lay-is _ _)
