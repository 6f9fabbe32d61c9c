-- `fields::check_strings` meets its contract: each return is a way through the checks. Assumes nothing.
use mathlib.Core.Path.{◌≡◌, sym, ◌∙◌}
use mathlib.Core.Bool.{true, false}
use Rattle.fields.specs.Limits.{most_columns, outside}
use Rattle.fields.specs.Strings.{strings-size, strings-short, strings-spare}
use Rattle.fields.proofs.packing.check_strings.Goals as goal
use Rattle.fields.proofs.packing.check_strings.Goals.{Else-outside}

-- what holds past the size
inside : (c : Else-outside) → outside most_columns c.args.columns ≡ false
inside c = sym c.outside.ensures ∙ c.if-outside.false

pub returns-then-outside : goal.returns-then-outside
returns-then-outside c = strings-size _ _ _ (sym c.outside.ensures ∙ c.if-outside.true)

pub returns-then-bytes-width : goal.returns-then-bytes-width
returns-then-bytes-width c =
    strings-short _ _ _ (inside (goal.at.returns-then-bytes-width c).Else-outside) (rw c.width.ensures at c.if-bytes-width.true)

pub returns-then-any_spare : goal.returns-then-any_spare
returns-then-any_spare c =
    strings-spare _ _ _ (inside (goal.at.returns-then-any_spare c).Else-outside) (rw c.width.ensures at c.if-bytes-width.false) true
    (sym c.if-any_spare.true ∙ c.any_spare.ensures)

pub returns : goal.returns
returns c =
    strings-spare _ _ _ (inside (goal.at.returns c).Else-outside) (rw c.width.ensures at c.if-bytes-width.false) false
    (sym c.if-any_spare.false ∙ c.any_spare.ensures)
