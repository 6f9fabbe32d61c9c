-- `compiler::end` meets its contract: one instruction, then one for each V passed. Assumes nothing.
use Rattle.compiler.specs.Translation.{tell}
use Rattle.compiler.specs.Emitting.{Parts}
use Rattle.compiler.proofs.parts.end.Given as goal

abbrev pub invariant-loop-t : goal.invariant-loop-t
invariant-loop-t l = Parts tell l.fn.layout.k l.initial.to l.initial.out l.t l.out l.to
