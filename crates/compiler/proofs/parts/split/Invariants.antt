-- `compiler::split` meets its contract: two instructions, then two for each distance passed. Assumes nothing.
use Rattle.compiler.specs.Translation.{apart}
use Rattle.compiler.specs.Emitting.{Parts}
use Rattle.compiler.proofs.parts.split.Given as goal

abbrev pub invariant-loop-i : goal.invariant-loop-i
invariant-loop-i l = Parts (apart l.layout.k l.layout.m) l.h l.initial.to l.initial.out l.i l.out l.to
