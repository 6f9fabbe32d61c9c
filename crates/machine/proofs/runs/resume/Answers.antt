-- `machine::resume` meets its contract: the program is checked, then its parts of what is lent are run as they are. Assumes nothing.
use borrow.Author.Rules.{rules}
use native.Mathlib.Omega.{arith}
use Prim.Native.Nat.{ℕ}
use mathlib.Core.Path.{refl}
use Rattle.fields.specs.Refusal.{passed_on}
use Rattle.machine.specs.Meaning.{word_gates}
use Rattle.machine.specs.Calls.{Call, resuming}
use Rattle.machine.specs.Answers.{Fits, room_means}
use Rattle.machine.proofs.Answers.{parts-formed, call_refused, call_beyond, call_short, call_ends}
use Rattle.machine.proofs.runs.resume.Goals as goal
use Rattle.machine.proofs.runs.resume.Goals.{Start, Else-lacks}

-- the call
abbrev called : Start → Call ℕ
called c = resuming word_gates c.args.program.now c.args.inputs.now c.args.registers.now c.args.outputs.now c.args.position

-- what is known of its program
fits : (c : Else-lacks) →
    Fits (resuming word_gates c.args.program.now c.args.inputs.now c.args.registers.now c.args.outputs.now c.args.position) c.in_ok-p.p
fits c =
    record {
      checked = c.in_ok-p.ensures;
      here = let h = c.if-p-position.false in omega arith;
      room = room_means _ _ _ _ _ c.lacks.ensures c.if-lacks.false;
    }

pub returns-then-p-position : goal.returns-then-p-position
returns-then-p-position c =
    call_beyond (called (goal.at.returns-then-p-position c).Start)
    c.args.budget _ c.in_ok-p.ensures c.if-p-position.true

pub returns-then-lacks : goal.returns-then-lacks
returns-then-lacks c =
    call_short (called (goal.at.returns-then-lacks c).Start)
    c.args.budget _ c.in_ok-p.ensures c.if-p-position.false _
    c.lacks.ensures c.if-lacks.true

pub carry_on-requires : goal.carry_on-requires
carry_on-requires c = let f = fits (goal.at.carry_on-requires c).Else-lacks in (parts-formed f _ _ (search rules) (search rules), f.here)

pub returns-in_err-p : goal.returns-in_err-p
returns-in_err-p c =
    call_refused (called (goal.at.returns-in_err-p c).Start)
    c.args.budget _ (passed_on c.from_residual.result _ c.from_residual.ensures.1) c.in_err-p.ensures

pub returns : goal.returns
returns c = call_ends (fits (goal.at.returns c).Else-lacks) refl c.carry_on.ensures (search rules)
