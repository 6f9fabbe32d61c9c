-- `compiler::keep` meets its contract: one instruction for each distance passed. Assumes nothing.
use Rattle.compiler.specs.Translation.{carry}
use Rattle.compiler.specs.Emitting.{Parts}
use Rattle.compiler.proofs.parts.keep.Given as goal

abbrev pub invariant-loop-i : goal.invariant-loop-i
invariant-loop-i l = Parts (carry l.layout.k l.layout.m l.w) l.h l.initial.to l.initial.out l.i l.out l.to
