-- `drawing::first_refusal` meets its contract: the check refuses, or it does not. Assumes nothing.
use Rattle.drawing.specs.OwnWords.{after_own_lem, after_none}
use Rattle.drawing.proofs.first_refusal.Goals as goal

pub returns-in-Err : goal.returns-in-Err
returns-in-Err c = after_own_lem _ _ _ c.in-Err.ensures

pub returns-in-Ok : goal.returns-in-Ok
returns-in-Ok c = after_none _ _ _ c.in-Ok.ensures
