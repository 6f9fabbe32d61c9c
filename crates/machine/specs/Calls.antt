-- 01, "Runs, words, samples": a start and a resume as one thing, a run of the program that its file holds, from a state and a position on.
-- Assumes nothing.
use Rattle.std.specs.Prelude.{ℕ, ◌≤◌, ◌≡◌, List, ltb, length, take, replicate}
use Rattle.std.proofs.Common.{◌∙◌, length-take-le}
use borrow.Author.Tests.{le-ltb, ltb-false}
use Rattle.std.proofs.lemmas.List.{length-replicate}
use Rattle.laws.specs.Outcome.{Outcome, gives, refuse, ◌>>◌, ◌>>=◌, passed, bound, gives_inj}
use Rattle.laws.specs.Outcome.{then-gives, bind_eq}
use Rattle.programs.specs.declared.description.Program.{Program}
use Rattle.programs.specs.declared.description.Instruction.{Instruction}
use Rattle.machine.specs.Meaning.{Gates, State, exec_long}
use Rattle.checker.specs.Checks.{Code, check_of}
use Rattle.machine.specs.Runs.{Ended, carried, run_of, room_for, start_on, resume_on}

-- ---- what is asked of lent words
-- at least as many as the header says
pub record Room {A : Type 0} (p : Program) (inputs registers outputs : List A) : Type 0 where
  pub for_inputs : p.inputs ≤ length inputs
  pub for_registers : p.registers ≤ length registers
  pub for_outputs : p.outputs ≤ length outputs

-- enough words for the program in a file, if it is accepted
abbrev pub Enough : {A : Type 0} → List ℕ → List A → List A → List A → Type 0
Enough file inputs registers outputs = (c : Code) → check_of file ≡ gives c → Room c.program inputs registers outputs

-- a state of as many words as the header says
pub record Sized {A : Type 0} (p : Program) (s : State A) : Type 0 where
  pub of_registers : length s.registers ≡ p.registers
  pub of_outputs : length s.outputs ≡ p.outputs

-- ---- calls
-- a start, or a resume at a position
pub data Entry : Type 0 where
  start : Entry
  resume : ℕ → Entry

abbrev pub on_entry {ℓ} : {B : Type ℓ} → Entry → B → (ℕ → B) → B
on_entry start x f = x
on_entry (resume position) x f = f position

-- with its file and the words that are lent
pub record Call (A : Type 0) : Type 0 where
  pub gates : Gates A
  pub file : List ℕ
  pub inputs : List A
  pub registers : List A
  pub outputs : List A
  pub entry : Entry

module _ {A : Type 0} (G : Gates A) where
  abbrev pub starting : List ℕ → List A → List A → List A → Call A
  starting file inputs registers outputs =
      record { gates = G; file = file; inputs = inputs; registers = registers; outputs = outputs; entry = start }

  abbrev pub resuming : List ℕ → List A → List A → List A → ℕ → Call A
  resuming file inputs registers outputs position =
      record { gates = G; file = file; inputs = inputs; registers = registers; outputs = outputs; entry = resume position }

  -- the states from which a start and a resume run
  abbrev pub cleared : Program → State A
  cleared p = record { registers = replicate p.registers G.zeros; outputs = replicate p.outputs G.zeros }

  abbrev pub lent : Program → List A → List A → State A
  lent p registers outputs = record { registers = take p.registers registers; outputs = take p.outputs outputs }

  -- the program that a call runs; it is refused by the program's own refusals, by 12 and by 13
  unfoldable pub admitted : List ℕ → List A → List A → List A → ℕ → Outcome Code
  admitted file inputs registers outputs position = do
    c ← check_of file
    refuse 12 (ltb (length c.instructions) position)
    room_for G c.program inputs registers outputs
    gives c

-- an accepted program that a call may run
pub record Runnable {A : Type 0} (file : List ℕ) (inputs registers outputs : List A) (position : ℕ) (c : Code) : Type 0 where
  pub accepted : check_of file ≡ gives c
  pub before_end : position ≤ length c.instructions
  pub room : Room c.program inputs registers outputs

module _ {A : Type 0} (k : Call A) where
  -- what a call comes to
  abbrev pub call_on : ℕ → Outcome (Ended A)
  call_on budget =
      on_entry k.entry (start_on k.gates k.file k.inputs k.registers k.outputs budget)
      (λ position. resume_on k.gates k.file k.inputs k.registers k.outputs position budget)

  -- the position and the state from which it runs
  abbrev pub begins : ℕ
  begins = on_entry k.entry 0 (λ position. position)

  abbrev pub from : Program → State A
  from p = on_entry k.entry (cleared k.gates p) (λ position. lent k.gates p k.registers k.outputs)

  -- the program that it admits, and what it runs of it
  abbrev pub admits : Outcome Code
  admits = admitted k.gates k.file k.inputs k.registers k.outputs begins

  abbrev pub MayRun : Code → Type 0
  MayRun = Runnable k.file k.inputs k.registers k.outputs begins

  abbrev pub call_run : ℕ → Code → Ended A
  call_run budget c = run_of k.gates c.instructions k.inputs begins budget (from c.program)

-- ---- what the checks before a run say
module _ {A : Type 0} (G : Gates A) where
  pub room-gives : (p : Program) (inputs registers outputs : List A) → Room p inputs registers outputs →
      room_for G p inputs registers outputs ≡ gives tt
  room-gives p inputs registers outputs r =
      rw (
        le-ltb (length inputs) p.inputs r.for_inputs,
        le-ltb (length registers) p.registers r.for_registers,
        le-ltb (length outputs) p.outputs r.for_outputs,
      )

  pub room_says : (p : Program) (inputs registers outputs : List A) → room_for G p inputs registers outputs ≡ gives tt →
      Room p inputs registers outputs
  room_says p inputs registers outputs e =
      let r1 = passed 13 (ltb (length inputs) p.inputs) _ tt e in
      let r2 = passed 13 (ltb (length registers) p.registers) _ tt r1.1 in
      let r3 = passed 13 (ltb (length outputs) p.outputs) (gives tt) tt r2.1 in
      record {
        for_inputs = ltb-false (length inputs) p.inputs r1.0;
        for_registers = ltb-false (length registers) p.registers r2.0;
        for_outputs = ltb-false (length outputs) p.outputs r3.0;
      }

  module _ (file : List ℕ) (inputs registers outputs : List A) where
    pub admitted-gives : (position : ℕ) (c : Code) → Runnable file inputs registers outputs position c →
        admitted G file inputs registers outputs position ≡ gives c
    unfolding admitted
    admitted-gives position c a =
        rw (
          a.accepted,
          le-ltb (length c.instructions) position a.before_end,
          room-gives c.program inputs registers outputs a.room,
        )

  -- ---- a call's words are as many as the header says, before it and after
  pub sized-cleared : (p : Program) → Sized p (cleared G p)
  sized-cleared p =
      record { of_registers = length-replicate p.registers G.zeros; of_outputs = length-replicate p.outputs G.zeros }

  pub sized_run : (p : Program) (is : List Instruction) (inputs : List A) (position budget : ℕ) (s : State A) → Sized p s →
      Sized p (run_of G is inputs position budget s).state
  unfolding run_of
  sized_run p is inputs position budget s z =
      let l = exec_long G inputs (carried budget position is) s in
      record { of_registers = l.0 ∙ z.of_registers; of_outputs = l.1 ∙ z.of_outputs }

-- ---- what a call's admission says, and its words
module _ {A : Type 0} (k : Call A) where
  pub admits-says : (c : Code) → admits k ≡ gives c → MayRun k c
  unfolding admitted
  admits-says c e =
      let c1 = bound (check_of k.file) _ c e in
      let n : Code = c1.0 in
      let c2 = passed 12 (ltb (length n.instructions) (begins k)) _ c c1.2 in
      let c3 = then-gives (room_for k.gates n.program k.inputs k.registers k.outputs) (gives n) c c2.1 in
      rw (← gives_inj c3.1)
      (record {
        accepted = c1.1;
        before_end = ltb-false (length n.instructions) (begins k) c2.0;
        room = room_says k.gates n.program k.inputs k.registers k.outputs c3.0;
      })

  pub sized-from : (p : Program) → Room p k.inputs k.registers k.outputs → Sized p (from k p)
  sized-from p r = by k.entry
    where
      by : (e : Entry) → Sized p (on_entry e (cleared k.gates p) (λ position. lent k.gates p k.registers k.outputs))
      by start = sized-cleared k.gates p
      by (resume position) =
          record {
            of_registers = length-take-le p.registers k.registers r.for_registers;
            of_outputs = length-take-le p.outputs k.outputs r.for_outputs;
          }

-- ---- two calls, of one kind of gates or of two
-- where both are enough words, or both are as many words, the same program is admitted
module _ {A B : Type 0} (G : Gates A) (H : Gates B) (file : List ℕ) (inputs registers outputs : List A)
    (inputs' registers' outputs' : List B) where
  pub both-enough : Enough file inputs registers outputs → Enough file inputs' registers' outputs' → (position : ℕ) →
      admitted G file inputs registers outputs position ≡ admitted H file inputs' registers' outputs' position
  unfolding admitted
  both-enough enough enough' position =
      bind_eq (check_of file) _ _
      (λ c e. rw (
        room-gives G c.program inputs registers outputs (enough c e),
        room-gives H c.program inputs' registers' outputs' (enough' c e),
      ))

  pub equal_lengths : length inputs ≡ length inputs' → length registers ≡ length registers' → length outputs ≡ length outputs' →
      (position : ℕ) → admitted G file inputs registers outputs position ≡ admitted H file inputs' registers' outputs' position
  unfolding admitted
  equal_lengths i r o position = rw (i, r, o)
