-- 01, "Runs, words, samples": a start and a resume as one thing, a run of the program that its file holds, from a state and a position on.
-- Assumes nothing.
use Rattle.std.specs.Prelude.{ℕ, ◌≡◌, refl, List, ltb, length}
use Rattle.std.proofs.Common.{sym, ◌∙◌, arith}
use borrow.Author.Tests.{le-ltb}
use Rattle.laws.specs.Outcome.{gives, refuse, mapped, mapped-gives}
use Rattle.laws.specs.Outcome.{mapped_bind, mapped-then, mapped-mapped, mapped_id, mapped-same}
use Rattle.machine.specs.Meaning.{Gates}
use Rattle.checker.specs.Checks.{Code, check_of}
use Rattle.machine.specs.Runs.{Ended, room_for, start_under, start_on, resume_under}
use Rattle.machine.specs.Calls.{Entry, Call, starting, resuming, admitted, call_on, begins, admits, MayRun, call_run, admitted-gives}
use Rattle.machine.specs.Calls.{admits-says, start, resume}

-- ---- a start and a resume are runs of the admitted program
module _ {A : Type 0} (G : Gates A) where
  module _ (file : List ℕ) (inputs registers outputs : List A) where
    pub start_is : (budget : ℕ) → start_on G file inputs registers outputs budget ≡
        mapped (call_run (starting G file inputs registers outputs) budget) (admitted G file inputs registers outputs 0)
    unfolding start_under admitted
    start_is budget =
        let run : Code → Ended A = call_run (starting G file inputs registers outputs) budget in
        mapped_bind (check_of file) _ _ run
        (λ c. rw (le-ltb (length c.instructions) 0 (omega arith))
        (mapped-then (room_for G c.program inputs registers outputs) _ _ run refl))

    entry-is : (e : Entry) (budget : ℕ) →
        let k : Call A = record { gates = G; file = file; inputs = inputs; registers = registers; outputs = outputs; entry = e } in
        call_on k budget ≡ mapped (call_run k budget) (admits k)
    unfolding resume_under admitted
    entry-is start budget = start_is budget
    entry-is (resume position) budget =
        let run : Code → Ended A = call_run (resuming G file inputs registers outputs position) budget in
        mapped_bind (check_of file) _ _ run
        (λ c. mapped-then (refuse 12 (ltb (length c.instructions) position)) _ _ run
        (mapped-then (room_for G c.program inputs registers outputs) _ _ run refl))

-- ---- a call is a run of the program that it admits
module _ {A : Type 0} (k : Call A) where
  pub call_is : (budget : ℕ) → call_on k budget ≡ mapped (call_run k budget) (admits k)
  call_is = entry-is k.gates k.file k.inputs k.registers k.outputs k.entry

  -- a part of what it comes to
  pub call_part : {C : Type 0} (budget : ℕ) (f : Ended A → C) →
      mapped f (call_on k budget) ≡ mapped (λ c. f (call_run k budget c)) (admits k)
  call_part budget f = rw (call_is budget) (mapped-mapped (call_run k budget) f _ (admits k) (λ c. refl))

  -- so a call that may run its program gives that run, and one that gives a result has run
  pub call_gives : (budget : ℕ) (c : Code) → MayRun k c → call_on k budget ≡ gives (call_run k budget c)
  call_gives budget c w =
      call_is budget ∙ rw (admitted-gives k.gates k.file k.inputs k.registers k.outputs (begins k) c w)

  pub call_ran : (budget : ℕ) (e : Ended A) → call_on k budget ≡ gives e → (c : Code) × (MayRun k c) × (call_run k budget c ≡ e)
  call_ran budget e q =
      let m = mapped-gives (call_run k budget) (admits k) e (sym q ∙ call_is budget) in
      (m.0, admits-says k m.0 m.1, m.2)

-- ---- two calls, of one kind of gates or of two
-- two calls that admit the same program agree in what their runs of it agree in
pub calls_agree : {A B C : Type 0} (k : Call A) (k' : Call B) (budget : ℕ) → admits k ≡ admits k' → (f : Ended A → C) (g : Ended B → C) →
    ((c : Code) → MayRun k c → f (call_run k budget c) ≡ g (call_run k' budget c)) →
    mapped f (call_on k budget) ≡ mapped g (call_on k' budget)
calls_agree k k' budget same f g agree =
    rw (call_part k budget f, call_part k' budget g, ← same) (mapped-same _ _ (admits k) (λ c e. agree c (admits-says k c e)))

pub calls_equal : {A : Type 0} (k k' : Call A) (budget : ℕ) → admits k ≡ admits k' →
    ((c : Code) → MayRun k c → call_run k budget c ≡ call_run k' budget c) → call_on k budget ≡ call_on k' budget
calls_equal k k' budget same agree = sym (mapped_id _) ∙ (calls_agree k k' budget same (λ e. e) (λ e. e) agree ∙ mapped_id _)
