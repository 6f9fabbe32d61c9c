-- `checker::gates` meets its contract: what is left from here is answered as the whole is. Assumes nothing.
use Rattle.std.specs.Prelude.{◌+◌, ◌≤◌, ◌<◌, ◌≡◌, length}
use Rattle.std.proofs.Common.{arith}
use Rattle.checker.proofs.GateRuns.{passes_turn}
use Rattle.checker.proofs.gates.gates.Goals as goal

pub loop-done-preserved : goal.loop-done-preserved
loop-done-preserved c =
    let m = c.lesser-most.ensures in
    let l = c.loop-done-test.true in
    let inv = c.loop-done.invariant in
    let left : c.loop-done.done < c.args.from.more = omega arith in
    let room : c.loop-done.at + 10 ≤ length c.args.file.now = omega arith in (
      passes_turn _ _ _ _ _ _ c.requires _ _ _ inv.0 left room (c.sound_gate.ensures c.if-not-sound_gate.false) _ c.field_at.ensures.0 _
          c.wide_at.ensures c.if-wide_at-head.false,
      omega (arith, inv.1),
    )

pub returns : goal.returns
returns c =
    let done : c.loop-done.done ≡ c.lesser-most.result = omega arith in
    rw done at c.loop-done.invariant.0
