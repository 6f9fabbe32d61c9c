-- 01, "Runs, words, samples": what a run does not see of the words that are lent: what registers and outputs held before a start, and
-- inputs that no instruction takes. Assumes nothing.
use Rattle.std.specs.Prelude.{ℕ, ◌≤◌, ◌<◌, ◌≡◌, Bool, true, false, ◌⊎◌, eqb, length, get_or, set, drop}
use Rattle.std.proofs.Math.Path.{refl}
use Rattle.std.proofs.Common.{sym, ap, ap₂, ◌∙◌, arith, ext_get_or, get_or-set_same, get_or-set_other}
use mathlib.Core.List.{List, [], ◌∷◌}
use Rattle.std.proofs.Math.Logic.{inl, inr, ⊎_elim}
use borrow.Author.Tests.{le-ltb, eqb-true, eqb-false}
use Rattle.laws.specs.Lists.{Each, each_take, each-drop, each_more}
use Rattle.laws.specs.Outcome.{gives, gives_inj, mapped}
use Rattle.programs.specs.Instructions.{uses}
use Rattle.programs.specs.declared.description.Program.{Program}
use Rattle.programs.specs.declared.description.Instruction.{Instruction}
use Rattle.programs.specs.declared.description.Instruction.TheVariants.{Ones, Zero, Input, Not, And, Or, Output}
use Rattle.machine.specs.Meaning.{Gates, State, into, step, exec, step_long, exec_long}
use Rattle.checker.specs.Checks.{Code, check_of}
use Rattle.machine.specs.Runs.{Ended, steps, carried, run_of, start_on, resume_on}
use Rattle.machine.specs.Calls.{Room, Enough, Sized, Entry, start, resume, Call, starting, resuming, cleared, lent}
use Rattle.machine.specs.Calls.{call_on, begins, from, admitted, sized-cleared, sized-from, equal_lengths, both-enough}
use Rattle.machine.proofs.Calls.{calls_equal}
use Rattle.laws.specs.Every.{OneOf}
use Rattle.checker.specs.Accepting.{Fits, Ready, Sets, Nowhere, Sound}
use Rattle.checker.proofs.Encoding.{accepted-sound}
use Rattle.machine.specs.Resuming.{Holds, together, gone_on}
use Rattle.machine.proofs.Resuming.{start-whole, resume-whole, start_continued, resume_continued}
use Rattle.machine.specs.Unseen.{Takes}

-- ---- a start does not see what registers and outputs held before
module _ {A : Type 0} (G : Gates A) (file : List ℕ) (inputs registers outputs registers' outputs' : List A) (budget : ℕ) where
  -- the answer, and the registers and outputs after it, whether it stops or finishes
  pub start_forgets : length registers ≡ length registers' → length outputs ≡ length outputs' →
      start_on G file inputs registers outputs budget ≡ start_on G file inputs registers' outputs' budget
  start_forgets r o =
      calls_equal (starting G file inputs registers outputs) (starting G file inputs registers' outputs') budget
      (equal_lengths _ _ _ _ _ _ _ _ _ refl r o 0) (λ c w. refl)

  -- also where other numbers of words are lent, all enough
  pub start_forgets_enough : Enough file inputs registers outputs → Enough file inputs registers' outputs' →
      start_on G file inputs registers outputs budget ≡ start_on G file inputs registers' outputs' budget
  start_forgets_enough a b =
      calls_equal (starting G file inputs registers outputs) (starting G file inputs registers' outputs') budget
      (both-enough _ _ _ _ _ _ _ _ _ a b 0) (λ c w. refl)

-- ---- inputs that no instruction takes
module _ {A : Type 0} (G : Gates A) (inputs inputs' : List A) (K : ℕ → Type 0)
    (same : (n : ℕ) → K n → get_or inputs n G.zeros ≡ get_or inputs' n G.zeros) where
  step_inputs : (i : Instruction) (s : State A) → Takes K i → step G inputs i s ≡ step G inputs' i s
  step_inputs (Ones to) s b = refl
  step_inputs (Zero to) s b = refl
  step_inputs (Input to n) s b = rw (same n b.0)
  step_inputs (Not to a) s b = refl
  step_inputs (And to x y) s b = refl
  step_inputs (Or to x y) s b = refl
  step_inputs (Output o a) s b = refl

  exec_inputs : (is : List Instruction) (s : State A) → Each (Takes K) is → exec G inputs is s ≡ exec G inputs' is s
  unfolding exec
  exec_inputs [] s b = refl
  exec_inputs (i ∷ is) s b = rw (step_inputs i s b.0) (exec_inputs is (step G inputs' i s) b.1)

-- ---- what registers and outputs held before, where all instructions are carried out
module _ {A : Type 0} (G : Gates A) (p : Program) where
  -- two states agree in the registers of W and in the outputs of O, which are more after each instruction
  record Agree (W O : ℕ → Type 0) (s t : State A) : Type 0 where
    registers : (r : ℕ) → W r → get_or s.registers r G.zeros ≡ get_or t.registers r G.zeros
    outputs : (o : ℕ) → O o → get_or s.outputs o G.zeros ≡ get_or t.outputs o G.zeros

  set_agree : (K : ℕ → Type 0) (xs ys : List A) (to : ℕ) (x y d : A) → to < length xs → to < length ys → x ≡ y →
      ((r : ℕ) → K r → get_or xs r d ≡ get_or ys r d) → (r : ℕ) → OneOf (to ∷ []) r ⊎ K r →
      get_or (set xs to x) r d ≡ get_or (set ys to y) r d
  set_agree K xs ys to x y d a b e k r o = at (eqb r to) refl o
    where
      at : (t : Bool) → eqb r to ≡ t → OneOf (to ∷ []) r ⊎ K r → get_or (set xs to x) r d ≡ get_or (set ys to y) r d
      at true q o = rw (eqb-true r to q, get_or-set_same xs to x d a, get_or-set_same ys to y d b) e
      at false q (inl (inl z)) = absurd (eqb-false r to q z)
      at false q (inl (inr z)) = absurd z
      at false q (inr z) = get_or-set_other xs to r x d (eqb-false r to q) ∙ (k r z ∙ sym (get_or-set_other ys to r y d (eqb-false r to q)))

  module _ (inputs : List A) where
    sized_step : (i : Instruction) (s : State A) → Sized p s → Sized p (step G inputs i s)
    sized_step i s w =
        let l = step_long G inputs i s in
        record { of_registers = l.0 ∙ w.of_registers; of_outputs = l.1 ∙ w.of_outputs }

    into_agree : {W O : ℕ → Type 0} {s t : State A} (to : ℕ) (x y : A) → to < p.registers → Sized p s → Sized p t → x ≡ y → Agree W O s t →
        Agree (λ r. OneOf (to ∷ []) r ⊎ W r) (λ o. OneOf [] o ⊎ O o) (into G inputs to x s) (into G inputs to y t)
    into_agree {W} {O} {s} {t} to x y l w v e g =
        record {
          registers =
              set_agree W s.registers t.registers to x y G.zeros (omega (arith, w.of_registers)) (omega (arith, v.of_registers))
              e g.registers;
          outputs = λ o q. ⊎_elim (λ (z : ⊥). absurd z) (λ (z : O o). g.outputs o z) q;
        }

    step_agree : {W O : ℕ → Type 0} (i : Instruction) {s t : State A} → Fits p i → Each W (uses i).reads → Sized p s → Sized p t →
        Agree W O s t →
        Agree (λ r. OneOf (uses i).writes r ⊎ W r) (λ o. OneOf (uses i).sets o ⊎ O o) (step G inputs i s) (step G inputs i t)
    step_agree (Ones to) f e w v g = into_agree to _ _ f.0.0 w v refl g
    step_agree (Zero to) f e w v g = into_agree to _ _ f.0.0 w v refl g
    step_agree (Input to n) f e w v g = into_agree to _ _ f.0.0 w v refl g
    step_agree (Not to a) f e w v g = into_agree to _ _ f.0.0 w v (ap G.inverse (g.registers a e.0)) g
    step_agree (And to a b) f e w v g =
        into_agree to _ _ f.0.0 w v (ap₂ G.both (g.registers a e.0) (g.registers b e.1.0)) g
    step_agree (Or to a b) f e w v g =
        into_agree to _ _ f.0.0 w v (ap₂ G.either (g.registers a e.0) (g.registers b e.1.0)) g
    step_agree {W} {O} (Output o a) {s} {t} f e w v g =
        record {
          registers = λ r q. ⊎_elim (λ (z : ⊥). absurd z) (λ (z : W r). g.registers r z) q;
          outputs =
              set_agree O s.outputs t.outputs o _ _ G.zeros (omega (arith, w.of_outputs, f.3.0))
              (omega (arith, v.of_outputs, f.3.0))
              (g.registers a e.0) g.outputs;
        }

    exec_agree : (is : List Instruction) {W O : ℕ → Type 0} {s t : State A} → Each (Fits p) is → Ready W is Nowhere → Sized p s →
        Sized p t →
        Agree W O s t → (o : ℕ) → Sets o is ⊎ O o →
        get_or (exec G inputs is s).outputs o G.zeros ≡ get_or (exec G inputs is t).outputs o G.zeros
    unfolding exec
    exec_agree [] {W} {O} f e w v g o q = ⊎_elim (λ (z : ⊥). absurd z) (λ (z : O o). g.outputs o z) q
    exec_agree (i ∷ is) {W} {O} {s} {t} f e w v g o q =
        exec_agree is f.1 e.1 (sized_step i s w) (sized_step i t v) (step_agree i f.0 e.0 w v g) o
        (⊎_elim (λ (z : OneOf (uses i).sets o ⊎ Sets o is). ⊎_elim (λ (x : OneOf (uses i).sets o). inr (inl x)) inl z)
        (λ (z : O o). inr (inr z)) q)

    -- from any two states of as many words as the header says, a sound program's instructions leave the same outputs
    exec_forgets : (is : List Instruction) → Sound p is → (s t : State A) → Sized p s → Sized p t →
        (exec G inputs is s).outputs ≡ (exec G inputs is t).outputs
    exec_forgets is sound s t w v =
        let ls : length (exec G inputs is s).outputs ≡ p.outputs = (exec_long G inputs is s).1 ∙ w.of_outputs in
        let lt : length (exec G inputs is t).outputs ≡ p.outputs = (exec_long G inputs is t).1 ∙ v.of_outputs in
        ext_get_or G.zeros (exec G inputs is s).outputs (exec G inputs is t).outputs (ls ∙ sym lt)
        (λ o l. exec_agree is {W = Nowhere} {O = Nowhere} sound.in_range sound.written w v
        (record { registers = λ r z. absurd z; outputs = λ o z. absurd z }) o (inl (sound.all_set o (omega (arith, ls, l)))))

-- ---- the same of starts and resumes of an accepted file
module _ {A : Type 0} (G : Gates A) (file : List ℕ) (c : Code) (ok : check_of file ≡ gives c) where
  module _ (inputs inputs' : List A) (K : ℕ → Type 0) (same : (n : ℕ) → K n → get_or inputs n G.zeros ≡ get_or inputs' n G.zeros)
      (registers outputs : List A) (l : c.program.inputs ≤ length inputs) (l' : c.program.inputs ≤ length inputs') where
    abbrev calls : Entry → List A → Call A
    calls e words = record { gates = G; file = file; inputs = words; registers = registers; outputs = outputs; entry = e }

    -- a call whose instructions take inputs of K alone comes to the same whatever the other words are
    waits : (e : Entry) (budget : ℕ) → Each (Takes K) (carried budget (begins (calls e inputs)) c.instructions) →
        call_on (calls e inputs) budget ≡ call_on (calls e inputs') budget
    unfolding admitted run_of
    waits e budget b =
        let k : Call A = calls e inputs in
        calls_equal k (calls e inputs') budget
        (rw (ok, le-ltb (length inputs) c.program.inputs l, le-ltb (length inputs') c.program.inputs l'))
        (λ d w.
        let same_code : d ≡ c = gives_inj (sym w.accepted ∙ ok) in
        rw (same_code, exec_inputs G inputs inputs' K same (carried budget (begins k) c.instructions) (from k c.program) b))

    -- so where a start took words of K alone, a resume on what it left, with any other words filled in, comes to what one start on the
    -- words as they are then comes to
    module _ (registers' outputs' : List A) where
      pub start_waited : (a b : ℕ) (e : Ended A) → Each (Takes K) (carried a 0 c.instructions) →
          start_on G file inputs registers outputs a ≡ gives e → Holds e.state registers' outputs' →
          gone_on G file inputs' registers' outputs' b e ≡ start_on G file inputs' registers outputs (together a b)
      start_waited a b e w q = start_continued G file inputs' registers outputs registers' outputs' a b e (sym (waits start a w) ∙ q)

      -- and so with a resume
      pub resume_waited : (position a b : ℕ) (e : Ended A) → Each (Takes K) (carried a position c.instructions) →
          resume_on G file inputs registers outputs position a ≡ gives e → Holds e.state registers' outputs' →
          gone_on G file inputs' registers' outputs' b e ≡ resume_on G file inputs' registers outputs position (together a b)
      resume_waited position a b e w q =
          resume_continued G file inputs' registers outputs registers' outputs' position a b e (sym (waits (resume position) a w) ∙ q)

  -- a word that the header counts
  abbrev Counted : ℕ → Type 0
  Counted n = n < c.program.inputs

  -- no instruction of an accepted program takes a word beyond those
  all-counted : (position budget : ℕ) → Each (Takes Counted) (carried budget position c.instructions)
  all-counted position budget =
      let left : List Instruction = drop position c.instructions in
      each_take (Takes Counted) (steps budget position (length c.instructions)) left
      (each-drop (Takes Counted) position c.instructions
      (each_more (Fits c.program) (Takes Counted) c.instructions (λ i f. f.2) (accepted-sound file c ok).in_range))

  -- so the words beyond play no part
  module _ (inputs inputs' : List A) (same : (n : ℕ) → n < c.program.inputs → get_or inputs n G.zeros ≡ get_or inputs' n G.zeros)
      (registers outputs : List A) (l : c.program.inputs ≤ length inputs) (l' : c.program.inputs ≤ length inputs') where
    pub start-inputs : (budget : ℕ) → start_on G file inputs registers outputs budget ≡ start_on G file inputs' registers outputs budget
    start-inputs budget = waits inputs inputs' Counted same registers outputs l l' start budget (all-counted 0 budget)

    pub resume-inputs : (position budget : ℕ) →
        resume_on G file inputs registers outputs position budget ≡ resume_on G file inputs' registers outputs position budget
    resume-inputs position budget =
        waits inputs inputs' Counted same registers outputs l l' (resume position) budget (all-counted position budget)

  -- carried out whole, from whatever registers and outputs held, the program leaves the outputs of a start
  pub whole-outputs : (inputs registers outputs registers' outputs' : List A) (budget : ℕ) → Room c.program inputs registers outputs →
      Room c.program inputs registers' outputs' → c.program.count ≤ budget →
      mapped (λ e. e.state.outputs) (resume_on G file inputs registers outputs 0 budget) ≡
      mapped (λ e. e.state.outputs) (start_on G file inputs registers' outputs' budget)
  whole-outputs inputs registers outputs registers' outputs' budget r q h =
      rw (resume-whole G file inputs registers outputs budget c ok r h, start-whole G file inputs registers' outputs' budget c ok q h)
      (ap gives (exec_forgets G c.program inputs c.instructions (accepted-sound file c ok) (lent G c.program registers outputs)
      (cleared G c.program) (sized-from (resuming G file inputs registers outputs 0) c.program r) (sized-cleared G c.program)))
