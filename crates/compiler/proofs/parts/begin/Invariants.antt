-- `compiler::begin` meets its contract: two instructions, then one for each V passed. Assumes nothing.
use Rattle.compiler.specs.Translation.{clear}
use Rattle.compiler.specs.Emitting.{Parts}
use Rattle.compiler.proofs.parts.begin.Given as goal

abbrev pub invariant-loop-t : goal.invariant-loop-t
invariant-loop-t l = Parts clear l.fn.layout.k l.initial.to l.initial.out l.t l.out l.to
