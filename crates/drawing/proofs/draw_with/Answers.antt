-- `drawing::draw_with` meets its contract: what is read is the front of the words that the batch left. Assumes nothing.
use Rattle.fields.specs.Refusal.{passed_on}
use Rattle.drawing.specs.OwnWords.{drawn-refused, drawn_read}
use Rattle.drawing.proofs.draw_with.Goals as goal

pub returns-in_err-batch : goal.returns-in_err-batch
returns-in_err-batch g c =
    rw (passed_on c.from_residual.result _ c.from_residual.ensures.1) (drawn-refused _ _ _ _ _ c.in_err-batch.ensures.outcome.0)

pub returns : goal.returns
returns g c = drawn_read _ _ _ _ _ _ c.in_ok-batch.ensures.outcome c.read.ensures
