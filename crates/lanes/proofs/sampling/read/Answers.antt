-- `lanes::read` meets its contract: the checks, then j samples are laid. Assumes nothing.
use borrow.Author.Rules.{rules}
use native.Mathlib.Omega.{arith}
use mathlib.Core.Path.{sym, ◌∙◌}
use Rattle.laws.specs.Lay.{upto-none, laid_store}
use Rattle.lanes.specs.Transposing.{blank_table, blank_front}
use Rattle.lanes.specs.Samples.{reads_unsuited, reads_short, reads_all}
use Rattle.lanes.proofs.sampling.read.Goals as goal

pub returns-then-not-suited : goal.returns-then-not-suited
returns-then-not-suited g c = reads_unsuited _ _ _ _ (sym c.suited.ensures ∙ c.if-not-suited.true)

pub returns-then-samples-lt-LANES : goal.returns-then-samples-lt-LANES
returns-then-samples-lt-LANES g c =
    reads_short _ _ _ _ (sym c.suited.ensures ∙ c.if-not-suited.false) c.if-samples-lt-LANES.true

pub lane_rows-requires : goal.lane_rows-requires
lane_rows-requires g c = (sym c.suited.ensures ∙ c.if-not-suited.false, blank_table, blank_front _)

pub loop-j-init : goal.loop-j-init
loop-j-init g c = upto-none _ _ _

pub loop-j-preserved : goal.loop-j-preserved
loop-j-preserved g c =
    laid_store _ _ _ _ _ _ _ (omega arith) (search rules) (c.of_row.ensures _ _ (c.lane_rows.ensures.lane _ c.loop-j-test.true))
    c.loop-j.invariant

pub returns : goal.returns
returns g c =
    reads_all _ _ _ _ (sym c.suited.ensures ∙ c.if-not-suited.false) c.if-samples-lt-LANES.false _ _ (search rules) c.loop-j-test.false
    c.loop-j.invariant
