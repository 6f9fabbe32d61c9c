-- `machine::gate_at` meets its contract. Assumes nothing.
use Rattle.std.proofs.Common.{ap, ◌∙◌, slice_set}
use Rattle.machine.proofs.GateSteps.{gate_made}
use Rattle.machine.proofs.steps.gate_at.Goals as goal

pub returns : goal.returns
returns g c =
    ap (slice_set _ _) c.join.ensures ∙
    gate_made g.C.Connective.which _ _ _ c.field_at-to.ensures.0 c.field_at-a.ensures.0 c.field_at-b.ensures.0
