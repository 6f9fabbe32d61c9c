-- `drawing::run_batch` meets its contract: a refusal that is due after the program's own waits for the program's check, and a start on the
-- engine's words comes to what it comes to on just as many as the header says. Assumes nothing.
use borrow.Author.Rules.{rules}
use native.Mathlib.Omega.{arith}
use lib.ListN.{replicate}
use Rattle.fields.specs.Refusal.{passed_on}
use Rattle.programs.specs.Limits.{most_inputs}
use Rattle.drawing.specs.OwnWords.{batch-refused, batch_headless, batch-strings, batch-short, batch-ends, batch-few}
use Rattle.drawing.proofs.run_batch.Goals as goal

pub returns-in_err-p-clause-outcome : goal.returns-in_err-p-clause-outcome
returns-in_err-p-clause-outcome c =
    rw (passed_on c.from_residual.result _ c.from_residual.ensures.1)
    (batch-refused _ _ _ _ _ (batch_headless _ _ _ _ c.in_err-p.ensures))

pub returns-in-Err-clause-outcome : goal.returns-in-Err-clause-outcome
returns-in-Err-clause-outcome c =
    let cut = c.in-Err.ensures.0 in
    batch-refused _ _ _ _ _
    (batch-strings _ _ _ _ c.in_ok-p.ensures (replicate most_inputs 0) (search rules) _ _ cut c.first_refusal.ensures)

pub returns-then-room-lt-LANES-clause-outcome : goal.returns-then-room-lt-LANES-clause-outcome
returns-then-room-lt-LANES-clause-outcome c =
    let cut = c.in_default.ensures.0 in
    batch-refused _ _ _ _ _
    (batch-short _ _ _ _ c.in_ok-p.ensures (replicate most_inputs 0) (search rules) _ _ cut (omega (arith, c.if-room-lt-LANES.true))
    c.first_refusal-then-room-lt-LANES.ensures)

pub returns-in_err-start-clause-outcome : goal.returns-in_err-start-clause-outcome
returns-in_err-start-clause-outcome c =
    rw (passed_on c.from_residual-in_err-start.result _ c.from_residual-in_err-start.ensures.1)
    (batch-ends _ _ _ _ c.in_ok-p.ensures (replicate most_inputs 0) (search rules) (omega (arith, c.if-room-lt-LANES.false)) _ _
    (search rules) (search rules) _
    c.in_default.ensures.0 _ c.slice.ensures.1 _ _ c.in_err-start.ensures.0 c.start.ensures.1.1)

pub returns-clause-outcome : goal.returns-clause-outcome
returns-clause-outcome c =
    batch-ends _ _ _ _ c.in_ok-p.ensures (replicate most_inputs 0) (search rules) (omega (arith, c.if-room-lt-LANES.false)) _ _
    (search rules) (search rules) _
    c.in_default.ensures.0 _ c.slice.ensures.1 _ _ c.in_ok-start.ensures.0 c.start.ensures.1.1

pub returns-clause-few : goal.returns-clause-few
returns-clause-few c = batch-few _ _ c.in_ok-p.ensures
