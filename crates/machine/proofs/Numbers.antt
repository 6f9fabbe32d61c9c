-- 01, "Runs, words, samples": when a run stops, and that no number in its answer depends on the words. Assumes nothing.
use Rattle.std.specs.Prelude.{ℕ, ◌+◌, ◌≤◌, ◌≡◌, refl, List, length}
use Rattle.std.proofs.Common.{sym, ◌∙◌, arith, eqb-true, eq-eqb, ne_eqb}
use Rattle.std.proofs.lemmas.Bool.{eqb-false}
use Rattle.laws.specs.Outcome.{gives, gives_inj, mapped}
use Rattle.machine.specs.Meaning.{Gates}
use Rattle.checker.specs.Checks.{Code, check_of}
use Rattle.machine.specs.Runs.{Ended, steps, run_answer, run_of, start_on, resume_on}
use Rattle.machine.specs.Calls.{Enough, Call, starting, resuming, call_on, begins, admits}
use Rattle.machine.proofs.Calls.{call_ran}
use Rattle.machine.specs.Calls.{both-enough, equal_lengths}
use Rattle.machine.proofs.Calls.{calls_agree}
use Rattle.checker.proofs.Encoding.{accepted-sound}
use Rattle.machine.specs.Numbers.{Obeys}

-- ---- the answer is that of position, budget and count
answer_obeys : (position budget count : ℕ) → position ≤ count → Obeys position budget count (run_answer budget position count)
answer_obeys position budget count h =
    let at : ℕ = position + steps budget position count in
    record {
      own_budget = refl;
      moved = refl;
      afforded = omega arith;
      stopped = ((λ e. let n = eqb-false at count e in omega arith), (λ e. ne_eqb at count (λ q. omega arith)));
      ended = ((λ e. eqb-true at count e), (λ e. eq-eqb at count e));
    }

-- ---- when a run stops
call_obeys : {A : Type 0} (k : Call A) (c : Code) → check_of k.file ≡ gives c → (budget : ℕ) (e : Ended A) → call_on k budget ≡ gives e →
    Obeys (begins k) budget c.program.count e.answer
unfolding run_of
call_obeys k c ok budget e q =
    let r = call_ran k budget e q in
    let same : r.0 ≡ c = gives_inj (sym r.1.accepted ∙ ok) in
    rw (← r.2, same, (accepted-sound k.file c ok).counted)
    (answer_obeys (begins k) budget (length c.instructions) (rw same at r.1.before_end))

module _ {A : Type 0} (G : Gates A) (file : List ℕ) (inputs registers outputs : List A) (c : Code) (ok : check_of file ≡ gives c) where
  pub start_obeys : (budget : ℕ) (e : Ended A) → start_on G file inputs registers outputs budget ≡ gives e →
      Obeys 0 budget c.program.count e.answer
  start_obeys = call_obeys (starting G file inputs registers outputs) c ok

  pub resume_obeys : (position budget : ℕ) (e : Ended A) → resume_on G file inputs registers outputs position budget ≡ gives e →
      Obeys position budget c.program.count e.answer
  resume_obeys position = call_obeys (resuming G file inputs registers outputs position) c ok

-- ---- the words play no part
call_numbers : {A B : Type 0} (k : Call A) (k' : Call B) → begins k ≡ begins k' → admits k ≡ admits k' → (budget : ℕ) →
    mapped (λ e. e.answer) (call_on k budget) ≡ mapped (λ e. e.answer) (call_on k' budget)
unfolding run_of
call_numbers k k' here same budget = calls_agree k k' budget same (λ e. e.answer) (λ e. e.answer) (λ c w. rw here)

module _ {A B : Type 0} (G : Gates A) (H : Gates B) (file : List ℕ) (inputs registers outputs : List A)
    (inputs' registers' outputs' : List B) where
  -- two lists each of inputs, registers and outputs, all long enough: the same answer
  module _ (enough : Enough file inputs registers outputs) (enough' : Enough file inputs' registers' outputs') where
    pub start_alike : (budget : ℕ) →
        mapped (λ e. e.answer) (start_on G file inputs registers outputs budget) ≡
        mapped (λ e. e.answer) (start_on H file inputs' registers' outputs' budget)
    start_alike =
        call_numbers (starting G file inputs registers outputs) (starting H file inputs' registers' outputs') refl
        (both-enough _ _ _ _ _ _ _ _ _ enough enough' 0)

    pub resume_alike : (position budget : ℕ) →
        mapped (λ e. e.answer) (resume_on G file inputs registers outputs position budget) ≡
        mapped (λ e. e.answer) (resume_on H file inputs' registers' outputs' position budget)
    resume_alike position =
        call_numbers (resuming G file inputs registers outputs position) (resuming H file inputs' registers' outputs' position) refl
        (both-enough _ _ _ _ _ _ _ _ _ enough enough' position)

  -- and of equal lengths, long enough or not
  module _ (i : length inputs ≡ length inputs') (r : length registers ≡ length registers') (o : length outputs ≡ length outputs') where
    pub start-same : (budget : ℕ) →
        mapped (λ e. e.answer) (start_on G file inputs registers outputs budget) ≡
        mapped (λ e. e.answer) (start_on H file inputs' registers' outputs' budget)
    start-same =
        call_numbers (starting G file inputs registers outputs) (starting H file inputs' registers' outputs') refl
        (equal_lengths _ _ _ _ _ _ _ _ _ i r o 0)

    pub resume-same : (position budget : ℕ) →
        mapped (λ e. e.answer) (resume_on G file inputs registers outputs position budget) ≡
        mapped (λ e. e.answer) (resume_on H file inputs' registers' outputs' position budget)
    resume-same position =
        call_numbers (resuming G file inputs registers outputs position) (resuming H file inputs' registers' outputs' position) refl
        (equal_lengths _ _ _ _ _ _ _ _ _ i r o position)
