-- `machine::start` meets its contract: the program is checked, then its parts of what is lent are cleared and run. Assumes nothing.
use borrow.Author.Rules.{rules}
use native.Mathlib.Omega.{arith}
use Prim.Native.Nat.{ℕ}
use mathlib.Core.Path.{refl}
use Rattle.fields.specs.Refusal.{passed_on}
use Rattle.machine.specs.Meaning.{word_gates}
use Rattle.machine.specs.Calls.{Call, starting}
use Rattle.machine.specs.Answers.{Fits, room_means}
use Rattle.machine.proofs.Answers.{parts-formed, call_refused, call_short, zeros-cleared, call_ends}
use Rattle.machine.proofs.runs.start.Goals as goal
use Rattle.machine.proofs.runs.start.Goals.{Start, Else-lacks}

-- the call
abbrev called : Start → Call ℕ
called c = starting word_gates c.args.program.now c.args.inputs.now c.args.registers.now c.args.outputs.now

-- what is known of its program
fits : (c : Else-lacks) →
    Fits (starting word_gates c.args.program.now c.args.inputs.now c.args.registers.now c.args.outputs.now) c.in_ok-p.p
fits c =
    record {
      checked = c.in_ok-p.ensures;
      here = omega arith;
      room = room_means _ _ _ _ _ c.lacks.ensures c.if-lacks.false;
    }

pub returns-then-lacks : goal.returns-then-lacks
returns-then-lacks c =
    call_short (called (goal.at.returns-then-lacks c).Start) c.args.budget _
    c.in_ok-p.ensures (omega arith) _
    c.lacks.ensures c.if-lacks.true

pub carry_on-requires : goal.carry_on-requires
carry_on-requires c =
    let f = fits (goal.at.carry_on-requires c).Else-lacks in
    (parts-formed f _ _ (search rules) (search rules), f.here)

pub returns-in_err-p : goal.returns-in_err-p
returns-in_err-p c =
    call_refused (called (goal.at.returns-in_err-p c).Start) c.args.budget _
    (passed_on c.from_residual.result _ c.from_residual.ensures.1) c.in_err-p.ensures

pub returns : goal.returns
returns c =
    let f = fits (goal.at.returns c).Else-lacks in
    call_ends f refl c.carry_on.ensures (zeros-cleared f (c.fill.ensures.after (λ y e. e)) (c.fill-2.ensures.after (λ y e. e)))
