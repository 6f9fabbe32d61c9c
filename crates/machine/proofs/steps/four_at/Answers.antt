-- `machine::four_at` meets its contract: gate after gate. Assumes nothing.
use Rattle.std.proofs.Common.{refl, ap, add-one, ◌∙◌}
use Rattle.machine.specs.Steps.{gate_words, gates_words}
use Rattle.machine.proofs.steps.four_at.Goals as goal

pub loop-k-init : goal.loop-k-init
unfolding gates_words
loop-k-init g c = refl

pub loop-k-preserved : goal.loop-k-preserved
unfolding gates_words
loop-k-preserved g c =
    rw (add-one c.loop-k.k) (c.gate_at.ensures ∙ ap (gate_words g.C.Connective.which _ _) c.loop-k.invariant)
