-- 01, "Runs, words, samples": a stop resumed as it was left ends as the unbroken run, after any number of stops. Assumes nothing.
use Prim.Native.Nat.{ℕ, ◌+◌, ◌^◌, ◌-◌, min}
use Rattle.std.specs.Prelude.{◌≡◌, true, take}
use Rattle.std.proofs.Common.{sym}
use mathlib.Core.List.{List, [], ◌∷◌}
use Rattle.std.proofs.Math.ListN.{length}
use Rattle.laws.specs.Lay.{lay}
use Rattle.laws.specs.Outcome.{Outcome, refused, gives, ◌>>=◌, mapped, laid, gives_inj, no_result}
use Rattle.machine.specs.Meaning.{Gates, State, exec}
use Rattle.checker.specs.Checks.{Code}
use Rattle.machine.specs.Runs.{Ended, start_on, resume_on}
use Rattle.machine.specs.declared.runs.Run.{Run}

-- ---- two runs taken as one
-- the largest budget
abbrev pub most_budget : ℕ
most_budget = 2 ^ 32 - 1

-- both budgets together, 2^32 - 1 where their sum is larger
abbrev pub together : ℕ → ℕ → ℕ
together a b = min (a + b) most_budget

unfoldable pub all_budgets : List ℕ → ℕ
all_budgets [] = 0
all_budgets (b ∷ bs) = b + all_budgets bs

-- the answer of a run and that of its resume, as the answer of one run: it ends where the resume ends, and the counts add up. The budget in
-- an answer is that of its own call, so it is both budgets together here
abbrev pub joined : Run → Run → Run
joined a b =
    record { finished = b.finished; position = b.position; count = a.count + b.count; budget = together a.budget b.budget }

abbrev pub continued : {A : Type 0} → Ended A → Ended A → Ended A
continued a b = record { answer = joined a.answer b.answer; state = b.state }

-- a run from the beginning that carries out all instructions of an accepted program
abbrev pub whole_run : {A : Type 0} → Gates A → Code → List A → ℕ → State A → Ended A
whole_run G c inputs budget s =
    record {
      answer = record { finished = true; position = c.program.count; count = c.program.count; budget = budget };
      state = exec G inputs c.instructions s;
    }

-- ---- calls, by what the caller holds after them
-- the answer, and the registers and outputs that were lent
pub record After (A : Type 0) : Type 0 where
  pub answer : Run
  pub registers : List A
  pub outputs : List A

-- a run's state lies at the front of what was lent, as the contracts of start and resume say
abbrev pub leaves : {A : Type 0} → List A → List A → Ended A → After A
leaves registers outputs e =
    record { answer = e.answer; registers = lay e.state.registers registers; outputs = lay e.state.outputs outputs }

-- buffers that hold a state's registers and outputs at their front
pub record Holds {A : Type 0} (s : State A) (registers outputs : List A) : Type 0 where
  pub in_registers : take (length s.registers) registers ≡ s.registers
  pub in_outputs : take (length s.outputs) outputs ≡ s.outputs

module _ {A : Type 0} (G : Gates A) (file : List ℕ) (inputs : List A) where
  abbrev pub started : List A → List A → ℕ → Outcome (After A)
  started registers outputs budget = mapped (leaves registers outputs) (start_on G file inputs registers outputs budget)

  abbrev pub resumed : List A → List A → ℕ → ℕ → Outcome (After A)
  resumed registers outputs position budget = mapped (leaves registers outputs) (resume_on G file inputs registers outputs position budget)

  -- a resume at the position and on the registers and outputs that a call left, the two taken as one call
  abbrev pub again : After A → ℕ → Outcome (After A)
  again l budget =
      mapped (λ m. record { answer = joined l.answer m.answer; registers = m.registers; outputs = m.outputs })
      (resumed l.registers l.outputs l.answer.position budget)

  -- one resume after another, each as the call before left it
  unfoldable pub onward : After A → List ℕ → Outcome (After A)
  onward l [] = gives l
  onward l (b ∷ bs) = again l b >>= (λ m. onward m bs)

  -- what a resume at the position that e left comes to, on these registers and outputs, the two taken as one run
  abbrev pub gone_on : List A → List A → ℕ → Ended A → Outcome (Ended A)
  gone_on registers outputs b e = mapped (continued e) (resume_on G file inputs registers outputs e.answer.position b)

  -- one resume after another from where a call ended, each on buffers that hold what the call before left, and what they come to with that
  -- call, taken as one run
  pub data Chain : Ended A → List ℕ → Ended A → Type 0 where
    here : {e : Ended A} → Chain e [] e
    next : {e f : Ended A} {b : ℕ} {bs : List ℕ} (registers outputs : List A) (m : Ended A) → Holds e.state registers outputs →
        gone_on registers outputs b e ≡ gives m → Chain m bs f → Chain e (b ∷ bs) f

-- what the contracts of start and resume say of a call that gives an answer, as what the caller holds
pub caller_holds : {A : Type 0} (o : Outcome (Ended A)) (answer : Run) (registers outputs registers' outputs' : List A) →
    gives answer ≡ mapped (λ e. e.answer) o → registers' ≡ lay (laid (λ e. e.state.registers) o) registers →
    outputs' ≡ lay (laid (λ e. e.state.outputs) o) outputs →
    mapped (leaves registers outputs) o ≡ gives (record { answer = answer; registers = registers'; outputs = outputs' })
caller_holds (refused n) answer registers outputs registers' outputs' e r q = no_result n answer (sym e)
caller_holds (gives x) answer registers outputs registers' outputs' e r q = rw (gives_inj e, r, q)
