-- 01, "Runs, words, samples": each lane of a run by itself. A map of words that commutes with the gates commutes with a run, and taking one
-- bit of each word is such a map. Assumes nothing.
use Rattle.std.specs.Prelude.{ℕ, ◌^◌, ◌<◌, ◌≡◌, length, get_or}
use Rattle.std.proofs.Math.Path.{refl, ap}
use Rattle.std.proofs.Common.{sym, ap₂, ◌∙◌, arith}
use mathlib.Core.List.{List, [], ◌∷◌, map}
use Rattle.std.specs.Int.Bits.{and_lt}
use Rattle.std.proofs.lemmas.Nat.{or_lt}
use Rattle.std.proofs.lemmas.List.{length-map}
use Rattle.std.proofs.Math.ListN.{get_or-map}
use Rattle.laws.specs.Words.{bit_at_zero, bit_at_and, bit_at_or, bit_at_not}
use Rattle.laws.specs.Lists.{all_set, all_take, all_replicate, map-set, map-take, map-replicate}
use Rattle.laws.specs.Outcome.{gives, mapped, mapped_id}
use Rattle.programs.specs.declared.description.Program.{Program}
use Rattle.programs.specs.declared.description.Instruction.{Instruction}
use Rattle.programs.specs.declared.description.Instruction.TheVariants.{Ones, Zero, Input, Not, And, Or, Output}
use Rattle.machine.specs.Meaning.{Gates, word_gates, bit_gates, State, into, step, exec}
use Rattle.checker.specs.Checks.{Code}
use Rattle.machine.specs.Runs.{Ended, carried, run_of, start_on, resume_on, start_of, resume_of}
use Rattle.machine.specs.Calls.{Entry, start, resume, on_entry, Call, starting, resuming, cleared, lent, call_on, begins, from}
use Rattle.machine.specs.Calls.{equal_lengths}
use Rattle.machine.proofs.Calls.{call_ran, calls_agree}
use Rattle.machine.proofs.Unseen.{start_forgets}
use Rattle.machine.specs.LaneLaw.{Closed, Commutes, All, Kept, map_state, map_ended, Word, lane, AllLent}

-- ---- what holds of the words before a run holds of those after
module _ {A : Type 0} (G : Gates A) (P : A → Type 0) (c : Closed G P) (inputs : List A) (p : All G P inputs) where
  kept_register : {s : State A} (r : ℕ) {x : A} → Kept G P s → P x → Kept G P (into G inputs r x s)
  kept_register {s} r {x} k h = record { registers = all_set P G.zeros s.registers r x k.registers h; outputs = k.outputs }

  step_kept : (i : Instruction) (s : State A) → Kept G P s → Kept G P (step G inputs i s)
  step_kept (Ones to) s k = kept_register to k c.ones
  step_kept (Zero to) s k = kept_register to k c.zeros
  step_kept (Input to n) s k = kept_register to k (p n)
  step_kept (Not to a) s k = kept_register to k (c.inverse _ (k.registers a))
  step_kept (And to a b) s k = kept_register to k (c.both _ _ (k.registers a) (k.registers b))
  step_kept (Or to a b) s k = kept_register to k (c.either _ _ (k.registers a) (k.registers b))
  step_kept (Output o a) s k =
      record { registers = k.registers; outputs = all_set P G.zeros s.outputs o _ k.outputs (k.registers a) }

  pub exec_kept : (is : List Instruction) (s : State A) → Kept G P s → Kept G P (exec G inputs is s)
  unfolding exec
  exec_kept [] s k = k
  exec_kept (i ∷ is) s k = exec_kept is (step G inputs i s) (step_kept i s k)

  -- ---- a map that commutes with the gates commutes with instructions
  module _ {B : Type 0} (H : Gates B) (f : A → B) (m : Commutes G H P f) where
    at_map : (xs : List A) (r : ℕ) → f (get_or xs r G.zeros) ≡ get_or (map f xs) r H.zeros
    at_map xs r = sym (get_or-map f xs r G.zeros) ∙ ap (get_or (map f xs) r) m.zeros

    into-map : (s : State A) (r : ℕ) {x : A} {y : B} → f x ≡ y →
        map_state f (into G inputs r x s) ≡ into H (map f inputs) r y (map_state f s)
    into-map s r {x} e = rw (map-set f s.registers r x, e)

    step_map : (i : Instruction) (s : State A) → Kept G P s → map_state f (step G inputs i s) ≡ step H (map f inputs) i (map_state f s)
    step_map (Ones to) s k = into-map s to m.ones
    step_map (Zero to) s k = into-map s to m.zeros
    step_map (Input to n) s k = into-map s to (at_map inputs n)
    step_map (Not to a) s k = into-map s to (m.inverse _ (k.registers a) ∙ ap H.inverse (at_map s.registers a))
    step_map (And to a b) s k =
        into-map s to
        (m.both _ _ (k.registers a) (k.registers b) ∙ ap₂ H.both (at_map s.registers a) (at_map s.registers b))
    step_map (Or to a b) s k =
        into-map s to
        (m.either _ _ (k.registers a) (k.registers b) ∙ ap₂ H.either (at_map s.registers a) (at_map s.registers b))
    step_map (Output o a) s k = rw (map-set f s.outputs o (get_or s.registers a G.zeros), at_map s.registers a)

    pub exec_map : (is : List Instruction) (s : State A) → Kept G P s →
        map_state f (exec G inputs is s) ≡ exec H (map f inputs) is (map_state f s)
    unfolding exec
    exec_map [] s k = refl
    exec_map (i ∷ is) s k = exec_map is (step G inputs i s) (step_kept i s k) ∙ ap (exec H (map f inputs) is) (step_map i s k)

-- ---- and so with a call
module _ {A : Type 0} (P : A → Type 0) (k : Call A) (c : Closed k.gates P) where
  kept_from : AllLent P k → (q : Program) → Kept k.gates P (from k q)
  kept_from a q = by k.entry a
    where
      zero : A
      zero = k.gates.zeros

      by : (e : Entry) → on_entry e (Unit {0}) (λ position. All k.gates P k.registers × All k.gates P k.outputs) →
          Kept k.gates P (on_entry e (cleared k.gates q) (λ position. lent k.gates q k.registers k.outputs))
      by start a =
          record { registers = all_replicate P zero q.registers c.zeros; outputs = all_replicate P zero q.outputs c.zeros }
      by (resume position) a =
          record {
            registers = all_take P zero q.registers k.registers c.zeros a.0;
            outputs = all_take P zero q.outputs k.outputs c.zeros a.1;
          }

  module _ (p : All k.gates P k.inputs) (a : AllLent P k) where
    call_kept : (budget : ℕ) (e : Ended A) → call_on k budget ≡ gives e → Kept k.gates P e.state
    unfolding run_of
    call_kept budget e q =
        let r = call_ran k budget e q in
        let x : Code = r.0 in
        rw (← r.2) (exec_kept k.gates P c k.inputs p (carried budget (begins k) x.instructions) _ (kept_from a x.program))

    -- ---- and a map with a call
    module _ {B : Type 0} (H : Gates B) (f : A → B) (m : Commutes k.gates H P f) where
      abbrev pub map_call : Call B
      map_call =
          record {
            gates = H;
            file = k.file;
            inputs = map f k.inputs;
            registers = map f k.registers;
            outputs = map f k.outputs;
            entry = k.entry;
          }

      map-from : (q : Program) → map_state f (from k q) ≡ from map_call q
      map-from q = by k.entry
        where
          by : (e : Entry) → map_state f (on_entry e (cleared k.gates q) (λ position. lent k.gates q k.registers k.outputs)) ≡
              on_entry e (cleared H q) (λ position. lent H q (map f k.registers) (map f k.outputs))
          by start = rw (map-replicate f q.registers k.gates.zeros, map-replicate f q.outputs k.gates.zeros, m.zeros)
          by (resume position) = rw (map-take f q.registers k.registers, map-take f q.outputs k.outputs)

      pub call_map : (budget : ℕ) → mapped (map_ended f) (call_on k budget) ≡ call_on map_call budget
      unfolding run_of
      call_map budget =
          calls_agree k map_call budget
          (equal_lengths _ _ _ _ _ _ _ _ _ (sym (length-map k.inputs f)) (sym (length-map k.registers f))
          (sym (length-map k.outputs f)) (begins k))
          (map_ended f) (λ e. e)
          (λ x w. rw (
            ← map-from x.program,
            ← exec_map k.gates P c k.inputs p H f m
                (carried budget (begins k) x.instructions) (from k x.program) (kept_from a x.program),
          )) ∙
          mapped_id (call_on map_call budget)

-- ---- starts and resumes
module _ {A : Type 0} (G : Gates A) (P : A → Type 0) (c : Closed G P) (inputs : List A) (p : All G P inputs) where
  module _ (file : List ℕ) (registers outputs : List A) where
    pub start_kept : (budget : ℕ) (e : Ended A) → start_on G file inputs registers outputs budget ≡ gives e → Kept G P e.state
    start_kept = call_kept P (starting G file inputs registers outputs) c p tt

    pub resume_kept : (position budget : ℕ) (e : Ended A) → All G P registers → All G P outputs →
        resume_on G file inputs registers outputs position budget ≡ gives e → Kept G P e.state
    resume_kept position budget e a b = call_kept P (resuming G file inputs registers outputs position) c p (a, b) budget e

-- ---- the lane law
pub words_closed : Closed word_gates Word
words_closed =
    record {
      ones = omega arith;
      zeros = omega arith;
      inverse = λ x h. omega arith;
      both = λ x y a b. and_lt 64 x y a b;
      either = λ x y a b. or_lt 64 x y a b;
    }

pub lane_commutes : (j : ℕ) → j < 64 → Commutes word_gates bit_gates Word (lane j)
lane_commutes j h =
    record {
      ones = bit_at_not 64 0 j (omega arith) h ∙ rw (bit_at_zero j);
      zeros = bit_at_zero j;
      inverse = λ x l. bit_at_not 64 x j l h;
      both = λ x y a b. bit_at_and x y j;
      either = λ x y a b. bit_at_or x y j;
    }

module _ (j : ℕ) (h : j < 64) where
  module _ (inputs : List ℕ) (p : (i : ℕ) → get_or inputs i 0 < 2 ^ 64) where
    -- projecting lane j commutes with instructions
    pub lane_exec : (is : List Instruction) (s : State ℕ) → ((i : ℕ) → get_or s.registers i 0 < 2 ^ 64) →
        ((i : ℕ) → get_or s.outputs i 0 < 2 ^ 64) →
        map_state (lane j) (exec word_gates inputs is s) ≡ exec bit_gates (map (lane j) inputs) is (map_state (lane j) s)
    lane_exec is s a b =
        exec_map word_gates Word words_closed inputs p bit_gates (lane j) (lane_commutes j h) is s (record { registers = a; outputs = b })

    -- with a start
    pub lane-start : (file registers outputs : List ℕ) (budget : ℕ) →
        mapped (map_ended (lane j)) (start_of file inputs registers outputs budget) ≡
        start_on bit_gates file (map (lane j) inputs) (map (lane j) registers) (map (lane j) outputs) budget
    lane-start file registers outputs =
        call_map Word (starting word_gates file inputs registers outputs) words_closed p tt bit_gates (lane j) (lane_commutes j h)

    -- and with a resume
    pub lane-resume : (file registers outputs : List ℕ) (position budget : ℕ) → ((i : ℕ) → get_or registers i 0 < 2 ^ 64) →
        ((i : ℕ) → get_or outputs i 0 < 2 ^ 64) →
        mapped (map_ended (lane j)) (resume_of file inputs registers outputs position budget) ≡
        resume_on bit_gates file (map (lane j) inputs) (map (lane j) registers) (map (lane j) outputs) position budget
    lane-resume file registers outputs position budget a b =
        call_map Word (resuming word_gates file inputs registers outputs position) words_closed p (a, b) bit_gates (lane j)
        (lane_commutes j h) budget

  -- so bit j of every register and output after a start depends on bit j of the inputs alone
  pub lane-start_alone : (file inputs inputs' registers registers' outputs outputs' : List ℕ) (budget : ℕ) →
      ((i : ℕ) → get_or inputs i 0 < 2 ^ 64) → ((i : ℕ) → get_or inputs' i 0 < 2 ^ 64) → map (lane j) inputs ≡ map (lane j) inputs' →
      length registers ≡ length registers' → length outputs ≡ length outputs' →
      mapped (map_ended (lane j)) (start_of file inputs registers outputs budget) ≡
      mapped (map_ended (lane j)) (start_of file inputs' registers' outputs' budget)
  lane-start_alone file inputs inputs' registers registers' outputs outputs' budget p p' e r o =
      rw (
        start_forgets word_gates file inputs registers outputs registers' outputs' budget r o,
        lane-start inputs p file registers' outputs' budget,
        lane-start inputs' p' file registers' outputs' budget,
        e,
      )

  -- and after a resume on bit j of the inputs, registers and outputs alone
  pub lane-resume_alone : (file inputs inputs' registers registers' outputs outputs' : List ℕ) (position budget : ℕ) →
      ((i : ℕ) → get_or inputs i 0 < 2 ^ 64) → ((i : ℕ) → get_or inputs' i 0 < 2 ^ 64) → ((i : ℕ) → get_or registers i 0 < 2 ^ 64) →
      ((i : ℕ) → get_or registers' i 0 < 2 ^ 64) → ((i : ℕ) → get_or outputs i 0 < 2 ^ 64) → ((i : ℕ) → get_or outputs' i 0 < 2 ^ 64) →
      map (lane j) inputs ≡ map (lane j) inputs' → map (lane j) registers ≡ map (lane j) registers' →
      map (lane j) outputs ≡ map (lane j) outputs' →
      mapped (map_ended (lane j)) (resume_of file inputs registers outputs position budget) ≡
      mapped (map_ended (lane j)) (resume_of file inputs' registers' outputs' position budget)
  lane-resume_alone file inputs inputs' registers registers' outputs outputs' position budget p p' a a' b b' e r o =
      rw (
        lane-resume inputs p file registers outputs position budget a b,
        lane-resume inputs' p' file registers' outputs' position budget a' b',
        e,
        r,
        o,
      )
