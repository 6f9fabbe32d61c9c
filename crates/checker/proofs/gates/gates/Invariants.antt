-- `checker::gates` meets its contract: what is left from here is answered as the whole is. Assumes nothing.
use Prim.Native.Nat.{◌+◌, ◌-◌, ◌*◌}
use mathlib.Core.Path.{◌≡◌}
use Rattle.checker.specs.GateRuns.{Passes}
use Rattle.checker.proofs.gates.gates.Given as goal

abbrev pub invariant-loop-done : goal.invariant-loop-done
invariant-loop-done l =
    Passes l.file l.registers l.from.more l.from.at l.initial.written (l.from.more - l.done) l.at l.written ×
    (l.at ≡ l.from.at + 10 * l.done)
