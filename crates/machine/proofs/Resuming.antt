-- 01, "Runs, words, samples": a stop resumed as it was left ends as the unbroken run, after any number of stops. Assumes nothing.
use Prim.Native.Nat.{ℕ, ◌+◌, ◌^◌, ◌≤◌, ◌<◌}
use Rattle.std.specs.Prelude.{◌≡◌, true, take, drop}
use Rattle.std.proofs.Math.Path.{refl}
use Rattle.std.proofs.Common.{sym, ap, ◌∙◌, length-take, length-drop, take-add}
use mathlib.Core.List.{List, [], ◌∷◌}
use Rattle.std.proofs.Math.Nat.{zero-add}
use native.Mathlib.Omega.{arith}
use borrow.Author.Tests.{eq-eqb}
use Rattle.std.proofs.Math.ListN.{length}
use Rattle.std.proofs.Math.Seq.{take_all, drop-drop}
use Rattle.laws.specs.Lay.{lay, take-lay, lay-again}
use Rattle.laws.specs.Outcome.{Outcome, gives, ◌>>=◌, mapped, bind_after, bind_gives, bind_mapped}
use Rattle.programs.specs.Reading.{within_means}
use Rattle.programs.specs.declared.description.Instruction.{Instruction}
use Rattle.machine.specs.Meaning.{Gates, State, exec, exec_append}
use Rattle.checker.specs.Checks.{Code, check_of}
use Rattle.machine.specs.Runs.{Ended, steps, carried, run_answer, run_of, start_on, resume_under, resume_on}
use Rattle.machine.specs.Calls.{Room, Sized, Call, starting, resuming, cleared, lent, call_on, begins, from, admits, MayRun, call_run}
use Rattle.machine.specs.Calls.{room-gives, admits-says, sized-from, sized_run}
use Rattle.machine.proofs.Calls.{call_part, call_gives, call_ran}
use Rattle.checker.proofs.Encoding.{accepted-sound}
use Rattle.machine.specs.Resuming.{most_budget, together, all_budgets, continued, whole_run, After, leaves, Holds, started, resumed, again}
use Rattle.machine.specs.Resuming.{onward, gone_on, Chain, here, next}

-- ---- runs of a list of instructions
-- a run carries out exactly as many instructions as its answer counts
pub carried-many : (budget position : ℕ) (is : List Instruction) →
    length (carried budget position is) ≡ (run_answer budget position (length is)).count
carried-many budget position is =
    omega (arith, length-take (steps budget position (length is)) (drop position is), length-drop position is)

module _ {A : Type 0} (G : Gates A) (is : List Instruction) (inputs : List A) where
  -- from any position: a run, and a second one from where it ended, are one run on both budgets together
  pub run_continued : length is ≤ most_budget → (position a b : ℕ) (s : State A) →
      let first : Ended A = run_of G is inputs position a s in
      continued first (run_of G is inputs first.answer.position b first.state) ≡ run_of G is inputs position (together a b) s
  unfolding run_of
  run_continued few position a b s =
      let n : ℕ = length is in
      let x : ℕ = steps a position n in
      let y : ℕ = steps b (position + x) n in
      let carried : exec G inputs (take y (drop (position + x) is)) (exec G inputs (take x (drop position is)) s) ≡
      exec G inputs (take (x + y) (drop position is)) s =
      rw (take-add x y (drop position is), drop-drop x position is)
      (sym (exec_append G inputs (take x (drop position is)) (take y (drop (position + x) is)) s)) in
      let all : x + y ≡ steps (together a b) position n = omega arith in
      let end : position + x + y ≡ position + steps (together a b) position n = omega (arith, all) in
      rw (carried, all, end)

  -- a budget for all instructions
  run_whole : (count budget : ℕ) (s : State A) → count ≡ length is → count ≤ budget →
      run_of G is inputs 0 budget s ≡
      record {
        answer = record { finished = true; position = count; count = count; budget = budget };
        state = exec G inputs is s;
      }
  unfolding run_of
  run_whole count budget s e h =
      let all : steps budget 0 (length is) ≡ length is = omega arith in
      rw (e, all, zero-add (length is), eq-eqb (length is) (length is) refl, take_all (length is) is (omega arith))

pub few_instructions : (file : List ℕ) (c : Code) → check_of file ≡ gives c → length c.instructions ≤ most_budget
few_instructions file c e =
    let s = accepted-sound file c e in
    omega (arith, s.counted, (within_means c.program s.limits).few_instructions)

-- ---- what a run leaves in lent buffers
module _ {A : Type 0} where
  -- a run's state lies at the front of what was lent
  pub holds-laid : (s : State A) (registers outputs : List A) → Holds s (lay s.registers registers) (lay s.outputs outputs)
  holds-laid s registers outputs =
      record {
        in_registers = take-lay (length s.registers) s.registers registers refl;
        in_outputs = take-lay (length s.outputs) s.outputs outputs refl;
      }

module _ {A : Type 0} (G : Gates A) (file : List ℕ) (inputs : List A) where
  -- a resume on buffers that hold a state runs on from that state
  resume-held : {c : Code} → check_of file ≡ gives c → c.program.inputs ≤ length inputs → {s : State A} {registers outputs : List A}
      (position budget : ℕ) → Sized c.program s → Holds s registers outputs → position ≤ length c.instructions →
      resume_on G file inputs registers outputs position budget ≡ gives (run_of G c.instructions inputs position budget s)
  resume-held {c} ok i {s} {registers} {outputs} position budget z h l =
      call_gives (resuming G file inputs registers outputs position) budget c
      (record {
        accepted = ok;
        before_end = l;
        room = record {
          for_inputs = i;
          for_registers = omega (arith, length-take (length s.registers) registers, ap length h.in_registers, z.of_registers);
          for_outputs = omega (arith, length-take (length s.outputs) outputs, ap length h.in_outputs, z.of_outputs);
        };
      }) ∙
      rw (← z.of_registers, ← z.of_outputs, h.in_registers, h.in_outputs)

  -- of registers and outputs a resume sees those at the front, as many as the header counts
  module _ (registers outputs : List A) (c : Code) (ok : check_of file ≡ gives c) (room : Room c.program inputs registers outputs) where
    pub resume-front : (registers' outputs' : List A) → Room c.program inputs registers' outputs' →
        take c.program.registers registers ≡ take c.program.registers registers' →
        take c.program.outputs outputs ≡ take c.program.outputs outputs' →
        (position budget : ℕ) →
        resume_on G file inputs registers outputs position budget ≡ resume_on G file inputs registers' outputs' position budget
    unfolding resume_under
    resume-front registers' outputs' room' r o position budget =
        rw (
          ok,
          room-gives G c.program inputs registers outputs room,
          room-gives G c.program inputs registers' outputs' room',
          r,
          o,
        )

-- ---- any call
module _ {A : Type 0} (k : Call A) where
  -- what the caller holds after it
  abbrev called : ℕ → Outcome (After A)
  called budget = mapped (leaves k.registers k.outputs) (call_on k budget)

  -- with a budget for all its instructions an accepted program is carried out whole
  call_whole : begins k ≡ 0 → (budget : ℕ) (c : Code) → check_of k.file ≡ gives c →
      Room c.program k.inputs k.registers k.outputs → c.program.count ≤ budget →
      call_on k budget ≡ gives (whole_run k.gates c k.inputs budget (from k c.program))
  call_whole first budget c ok room enough =
      call_gives k budget c (record { accepted = ok; before_end = omega arith; room = room }) ∙
      rw first
      (ap gives (run_whole k.gates c.instructions k.inputs c.program.count budget (from k c.program)
      (accepted-sound k.file c ok).counted enough))

  -- the run of a call, and that of a resume on what it left
  module _ (a b : ℕ) (c : Code) (w : MayRun k c) where
    abbrev first : Ended A
    first = call_run k a c

    abbrev second : Ended A
    second = run_of k.gates c.instructions k.inputs first.answer.position b first.state

    one_run : continued first second ≡ call_run k (together a b) c
    one_run =
        run_continued k.gates c.instructions k.inputs (few_instructions k.file c w.accepted) (begins k) a b
        (from k c.program)

    sized-first : Sized c.program first.state
    sized-first =
        sized_run k.gates c.program c.instructions k.inputs (begins k) a (from k c.program)
        (sized-from k c.program w.room)

    runs_on : {registers' outputs' : List A} → Holds first.state registers' outputs' →
        resume_on k.gates k.file k.inputs registers' outputs' first.answer.position b ≡ gives second
    unfolding run_of
    runs_on held =
        resume-held k.gates k.file k.inputs w.accepted w.room.for_inputs first.answer.position b sized-first held
        (omega (arith, w.before_end))

    -- on any buffers that hold what the call left
    goes_on : {e : Ended A} → first ≡ e → {registers' outputs' : List A} → Holds e.state registers' outputs' →
        gone_on k.gates k.file k.inputs registers' outputs' b e ≡ call_on k (together a b)
    goes_on q held =
        rw (← q, call_gives k (together a b) c w, runs_on (rw (← q) at held)) (ap gives one_run)

    -- and on the buffers of the call itself
    left-again : again k.gates k.file k.inputs (leaves k.registers k.outputs first) b ≡
        gives (leaves k.registers k.outputs (call_run k (together a b) c))
    left-again =
        let x = sized-first in
        let s = first.state in
        let y = sized_run k.gates c.program c.instructions k.inputs first.answer.position b s x in
        rw (
          runs_on (holds-laid s k.registers k.outputs),
          ← one_run,
          lay-again s.registers second.state.registers k.registers (x.of_registers ∙ sym y.of_registers),
          lay-again s.outputs second.state.outputs k.outputs (x.of_outputs ∙ sym y.of_outputs),
        )

  -- a call that gave e, resumed on any buffers that hold the registers and outputs that it left, comes to what one on both budgets together
  -- comes to: it ends there, with those registers and outputs, and the counts add up to its count
  call_continued : (registers' outputs' : List A) (a b : ℕ) (e : Ended A) → call_on k a ≡ gives e → Holds e.state registers' outputs' →
      gone_on k.gates k.file k.inputs registers' outputs' b e ≡ call_on k (together a b)
  call_continued registers' outputs' a b e q held =
      let r = call_ran k a e q in
      goes_on a b r.0 r.1 r.2 held

  -- the same of all that the caller holds after the two calls, and of refusals
  call_again : (a b : ℕ) → (called a >>= (λ l. again k.gates k.file k.inputs l b)) ≡ called (together a b)
  call_again a b =
      rw (call_part k a (leaves k.registers k.outputs), call_part k (together a b) (leaves k.registers k.outputs))
      (bind_mapped _ _ (λ l. again k.gates k.file k.inputs l b) (admits k) (λ c q. left-again a b c (admits-says k c q)))

  -- ---- any number of stops
  together-none : (b : ℕ) → b < 2 ^ 32 → together b 0 ≡ b
  together-none b h = omega arith

  together-all : (b x t : ℕ) → together (together b x) t ≡ together b (x + t)
  together-all b x t = omega arith

  -- a call and any number of resumes, each as the call before left it, end as one call on all budgets together
  call_onward : (b : ℕ) (bs : List ℕ) → b < 2 ^ 32 →
      (called b >>= (λ l. onward k.gates k.file k.inputs l bs)) ≡ called (together b (all_budgets bs))
  unfolding onward all_budgets
  call_onward b [] h = rw (together-none b h) (bind_gives (called b))
  call_onward b (x ∷ xs) h =
      bind_after (called b) (λ l. again k.gates k.file k.inputs l x) (λ m. onward k.gates k.file k.inputs m xs) _
      (λ l. refl) ∙
      rw (call_again b x, ← together-all b x (all_budgets xs)) (call_onward (together b x) xs (omega arith))

  -- the same with what each call left put back elsewhere: what a call and a chain of resumes come to is what one call comes to
  call_chain : (b : ℕ) (bs : List ℕ) (e f : Ended A) → b < 2 ^ 32 → call_on k b ≡ gives e → Chain k.gates k.file k.inputs e bs f →
      call_on k (together b (all_budgets bs)) ≡ gives f
  unfolding all_budgets
  call_chain b [] e f h q here = rw (together-none b h) q
  call_chain b (x ∷ xs) e f h q (next registers' outputs' m held g c) =
      rw (← together-all b x (all_budgets xs))
      (call_chain (together b x) xs m f (omega arith) (sym (call_continued registers' outputs' b x e q held) ∙ g) c)

-- ---- starts and resumes
module _ {A : Type 0} (G : Gates A) (file : List ℕ) (inputs registers outputs : List A) where
  module _ (budget : ℕ) (c : Code) (ok : check_of file ≡ gives c) (room : Room c.program inputs registers outputs)
      (enough : c.program.count ≤ budget) where
    pub start-whole : start_on G file inputs registers outputs budget ≡ gives (whole_run G c inputs budget (cleared G c.program))
    start-whole = call_whole (starting G file inputs registers outputs) refl budget c ok room enough

    pub resume-whole : resume_on G file inputs registers outputs 0 budget ≡
        gives (whole_run G c inputs budget (lent G c.program registers outputs))
    resume-whole = call_whole (resuming G file inputs registers outputs 0) refl budget c ok room enough

  module _ (registers' outputs' : List A) where
    pub start_continued : (a b : ℕ) (e : Ended A) → start_on G file inputs registers outputs a ≡ gives e →
        Holds e.state registers' outputs' →
        gone_on G file inputs registers' outputs' b e ≡ start_on G file inputs registers outputs (together a b)
    start_continued = call_continued (starting G file inputs registers outputs) registers' outputs'

    pub resume_continued : (position a b : ℕ) (e : Ended A) → resume_on G file inputs registers outputs position a ≡ gives e →
        Holds e.state registers' outputs' →
        gone_on G file inputs registers' outputs' b e ≡ resume_on G file inputs registers outputs position (together a b)
    resume_continued position = call_continued (resuming G file inputs registers outputs position) registers' outputs'

  pub start-onward : (b : ℕ) (bs : List ℕ) → b < 2 ^ 32 →
      (started G file inputs registers outputs b >>= (λ l. onward G file inputs l bs)) ≡
      started G file inputs registers outputs (together b (all_budgets bs))
  start-onward = call_onward (starting G file inputs registers outputs)

  pub resume-onward : (position b : ℕ) (bs : List ℕ) → b < 2 ^ 32 →
      (resumed G file inputs registers outputs position b >>= (λ l. onward G file inputs l bs)) ≡
      resumed G file inputs registers outputs position (together b (all_budgets bs))
  resume-onward position = call_onward (resuming G file inputs registers outputs position)

  pub start_chain : (b : ℕ) (bs : List ℕ) (e f : Ended A) → b < 2 ^ 32 → start_on G file inputs registers outputs b ≡ gives e →
      Chain G file inputs e bs f → start_on G file inputs registers outputs (together b (all_budgets bs)) ≡ gives f
  start_chain = call_chain (starting G file inputs registers outputs)

  pub resume_chain : (position b : ℕ) (bs : List ℕ) (e f : Ended A) → b < 2 ^ 32 →
      resume_on G file inputs registers outputs position b ≡ gives e → Chain G file inputs e bs f →
      resume_on G file inputs registers outputs position (together b (all_budgets bs)) ≡ gives f
  resume_chain position = call_chain (resuming G file inputs registers outputs position)

  -- so with budgets for all instructions, in however many calls, an accepted program is carried out whole
  pub onward-whole : (b : ℕ) (bs : List ℕ) (c : Code) → check_of file ≡ gives c → Room c.program inputs registers outputs → b < 2 ^ 32 →
      c.program.count ≤ b + all_budgets bs →
      (started G file inputs registers outputs b >>= (λ l. onward G file inputs l bs)) ≡
      gives (leaves registers outputs (whole_run G c inputs (together b (all_budgets bs)) (cleared G c.program)))
  onward-whole b bs c ok room h enough =
      let n : c.program.count ≤ together b (all_budgets bs) =
      omega (arith, few_instructions file c ok, (accepted-sound file c ok).counted) in
      start-onward b bs h ∙ rw (start-whole (together b (all_budgets bs)) c ok room n)
