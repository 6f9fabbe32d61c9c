-- `cumulative::Table::check` meets its contract: each return is a way through the checks. Assumes nothing.
use mathlib.Core.Path.{◌≡◌, sym, ◌∙◌}
use mathlib.Core.Bool.{false}
use Rattle.cumulative.specs.Tables.{uncumulative, numbers_of}
use Rattle.cumulative.proofs.tables.Table.check.Goals as goal
use Rattle.cumulative.proofs.tables.Table.check.Goals.{Else-uncumulative}

-- and what has passed before 16 is tried
past-15 : (c : Else-uncumulative) → uncumulative c.args.self.numbers.now c.args.self.columns ≡ false
past-15 c = sym c.uncumulative.ensures ∙ c.if-uncumulative.false

pub returns-then-uncumulative : goal.returns-then-uncumulative
unfolding numbers_of
returns-then-uncumulative c = rw (sym c.uncumulative.ensures ∙ c.if-uncumulative.true)

pub returns-then-fills : goal.returns-then-fills
unfolding numbers_of
returns-then-fills c = rw (past-15 (goal.at.returns-then-fills c).Else-uncumulative, sym c.fills.ensures ∙ c.if-fills.true)

pub returns : goal.returns
unfolding numbers_of
returns c = rw (past-15 (goal.at.returns c).Else-uncumulative, sym c.fills.ensures ∙ c.if-fills.false)
