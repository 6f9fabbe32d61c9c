-- `files::Rows::fit` meets its contract: what is left from column c on, with h places open, comes to what the whole does. Assumes nothing.
use borrow.Author.Rules.{rules}
use Rattle.fields.specs.Fields.{bit_le}
use Rattle.files.specs.Live.{open_first, open_full, open_next, open_done}
use Rattle.files.proofs.live.Rows.fit.Goals as goal

pub loop-c-init : goal.loop-c-init
loop-c-init c = (search rules, open_first _ _ _ (λ v i l k. bit_le _ _ _ _))

pub returns-then-h-w : goal.returns-then-h-w
returns-then-h-w c =
    open_full _ _ _ _ _ _ _ c.loop-c-test.true c.ones-w.ensures c.if-h-w.true
    c.loop-c.invariant.1

pub loop-c-preserved : goal.loop-c-preserved
loop-c-preserved c = (
  search rules,
  rw c.lesser-h.ensures
      (open_next _ _ _ _ _ _ _ c.loop-c-test.true c.ones-w.ensures c.if-h-w.false
      c.loop-c.invariant.1),
)

pub returns : goal.returns
returns c = open_done _ _ _ _ _ _ c.loop-c-test.false c.loop-c.invariant.1
