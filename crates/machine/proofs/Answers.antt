-- The ways of a start and a resume, in the words of their contracts. Assumes nothing.
use Rattle.std.specs.Prelude.{ℕ, ◌≤◌, ◌<◌, ◌≡◌, Bool, true, List, ◌++◌, length, take, drop, replicate}
use Rattle.std.proofs.Common.{◌∙◌, arith, length-take-le}
use borrow.Author.Tests.{le-ltb, lt-ltb}
use Rattle.laws.specs.Lay.{lay, lay-nothing}
use Rattle.laws.specs.Outcome.{Outcome, refused, gives, mapped}
use Rattle.laws.specs.Outcome.{mapped-refused}
use Rattle.programs.specs.Header.{header_length}
use Rattle.programs.specs.declared.description.Program.{Program}
use Rattle.machine.specs.Meaning.{word_gates}
use Rattle.checker.specs.Checks.{Code, check_of}
use Rattle.machine.specs.Runs.{Ended, run_of}
use Rattle.machine.specs.Calls.{Sized, Call, call_on, begins, from, admits}
use Rattle.machine.proofs.Calls.{call_is, call_gives}
use Rattle.machine.specs.Calls.{cleared, admitted, sized-from, sized_run}
use Rattle.checker.specs.Standing.{Formed}
use Rattle.machine.specs.Steps.{state}
use Rattle.machine.specs.Turns.{Ends}
use Rattle.machine.specs.declared.runs.Run.{Run}
use Rattle.machine.specs.Answers.{Answers, Accepted, lacking, Fits, accepted-file, room_is, part_long}

-- ---- refusals
module _ (k : Call ℕ) (budget : ℕ) where
  refuses : (n : ℕ) → admits k ≡ refused n → Answers k budget (refused n) k.registers k.outputs
  refuses n e =
      let q : call_on k budget ≡ refused n = call_is k budget ∙ rw e in
      (rw q, (rw q (lay-nothing k.registers), rw q (lay-nothing k.outputs)))

  pub call_refused : {r : Outcome Run} (n : ℕ) → r ≡ refused n → refused n ≡ mapped (λ c. c.program) (check_of k.file) →
      Answers k budget r k.registers k.outputs
  unfolding admitted
  call_refused n is-r e = rw is-r (refuses n (rw (mapped-refused (λ (c : Code). c.program) (check_of k.file) n e)))

  module _ (p : Program) (e : gives p ≡ mapped (λ c. c.program) (check_of k.file)) where
    pub call_beyond : p.count < begins k → Answers k budget (refused 12) k.registers k.outputs
    unfolding admitted
    call_beyond l =
        let a = accepted-file k.file p e in
        refuses 12 (rw (a.checks, lt-ltb (length a.code.instructions) (begins k) (omega (arith, a.counted))))

    pub call_short : begins k ≤ p.count → (b : Bool) → b ≡ lacking p k.inputs k.registers k.outputs → b ≡ true →
        Answers k budget (refused 13) k.registers k.outputs
    unfolding admitted
    call_short l b is_b t =
        let a = accepted-file k.file p e in
        refuses 13
        (rw (
          a.checks,
          le-ltb (length a.code.instructions) (begins k) (omega (arith, a.counted)),
          a.header,
          room_is p k.inputs k.registers k.outputs,
          ← is_b,
          t,
        ))

-- ---- a run
-- what a run leaves, as the definition says it
run_is : {file : List ℕ} {p : Program} (a : Accepted file p) {inputs rs os : List ℕ} {position budget : ℕ} {r : Run} {rs' os' : List ℕ} →
    Ends file p.count inputs rs os position budget r rs' os' →
    run_of word_gates a.code.instructions inputs position budget (state rs os) ≡ record { answer = r; state = state rs' os' }
unfolding run_of
run_is a d = rw (d.answer, d.left, a.reads, ← a.counted)

module _ {k : Call ℕ} {p : Program} (f : Fits k p) where
  -- words as many as the parts that are lent
  pub parts-formed : (rs os : List ℕ) → length rs ≡ length (take p.registers k.registers) → length os ≡ length (take p.outputs k.outputs) →
      Formed p.count (length rs) (length k.inputs) (length os) (drop header_length k.file)
  parts-formed rs os e q =
      let r = f.room in
      (accepted-file k.file p f.checked).formed k.inputs rs os
      (record {
        for_inputs = r.for_inputs;
        for_registers = omega (arith, e, part_long p.registers k.registers r.for_registers);
        for_outputs = omega (arith, q, part_long p.outputs k.outputs r.for_outputs);
      })

  -- words of 0 are the state that a start runs from
  pub zeros-cleared : {rs os : List ℕ} → rs ≡ replicate (length (take p.registers k.registers)) 0 →
      os ≡ replicate (length (take p.outputs k.outputs)) 0 → state rs os ≡ cleared word_gates p
  zeros-cleared e q =
      rw (
        e,
        q,
        length-take-le p.registers k.registers f.room.for_registers,
        length-take-le p.outputs k.outputs f.room.for_outputs,
      )

  -- a run from the call's state
  pub call_ends : k.gates ≡ word_gates → {budget : ℕ} {r : Run} {rs os rs' os' : List ℕ} →
      Ends k.file p.count k.inputs rs os (begins k) budget r rs' os' → state rs os ≡ from k p →
      Answers k budget (gives r) (rs' ++ drop p.registers k.registers) (os' ++ drop p.outputs k.outputs)
  unfolding lay
  call_ends g {budget} {r} {rs' = rs'} {os' = os'} d same =
      (rw result, (rw (result, sized.of_registers), rw (result, sized.of_outputs)))
    where
      a : Accepted k.file p
      a = accepted-file k.file p f.checked

      end : Ended ℕ
      end = record { answer = r; state = state rs' os' }

      ran : run_of k.gates a.code.instructions k.inputs (begins k) budget (from k p) ≡ end
      ran = rw (← same, g) (run_is a d)

      result : call_on k budget ≡ gives end
      result =
          call_gives k budget a.code
          (record { accepted = a.checks; before_end = omega (arith, a.counted, f.here); room = rw a.header f.room }) ∙
          rw (a.header, ran)

      sized : Sized p end.state
      sized =
          rw ran at
          (sized_run k.gates p a.code.instructions k.inputs (begins k) budget (from k p) (sized-from k p f.room))
