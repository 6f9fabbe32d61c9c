-- The ways of a start and a resume, in the words of their contracts, and what an accepted program says of its bytes. Assumes nothing.
use Rattle.std.specs.Prelude.{ℕ, zero, suc, ◌≤◌, ◌≡◌, refl, Bool, true, false, not, ◌||◌, List, [], ◌∷◌, ltb, length, take, drop}
use Rattle.std.proofs.Common.{sym, ap, ◌∙◌, arith, length-take}
use Rattle.laws.specs.Sums.{any}
use Rattle.laws.specs.Lay.{lay}
use Rattle.laws.specs.Outcome.{Outcome, gives, refuse, ◌>>◌, passed, bound, gives_inj, mapped, laid, mapped-gives}
use Rattle.programs.specs.Instructions.{uses, length_of}
use Rattle.programs.specs.Header.{header_length}
use Rattle.programs.specs.declared.description.Program.{Program}
use Rattle.programs.specs.declared.description.Instruction.{Instruction}
use Rattle.machine.specs.Meaning.{word_gates}
use Rattle.checker.specs.Checks.{Code, also, instruction_of, code_of, nothing, check_of}
use Rattle.machine.specs.Runs.{room_for}
use Rattle.machine.specs.Calls.{Room, Call, call_on, begins}
use Rattle.machine.specs.Calls.{room_says}
use Rattle.checker.specs.Standing.{read_of, Formed}
use Rattle.checker.specs.Operands.{range_means, range_wider}
use Rattle.checker.proofs.Admitting.{instruction_means}
use Rattle.checker.proofs.Encoding.{accepted-sound}
use Rattle.checker.specs.Checking.{check_says}
use Rattle.machine.specs.declared.runs.Run.{Run}

-- what the contracts say of a call: its answer, and what it lays down
abbrev pub Answers : Call ℕ → ℕ → Outcome Run → List ℕ → List ℕ → Type 0
Answers k budget r rs os =
    let o = call_on k budget in
    (r ≡ mapped (λ x. x.answer) o) ×
    ((rs ≡ lay (laid (λ x. x.state.registers) o) k.registers) × (os ≡ lay (laid (λ x. x.state.outputs) o) k.outputs))

-- what a check that has passed says
pub record Accepted (file : List ℕ) (p : Program) : Type 0 where
  pub code : Code
  pub checks : check_of file ≡ gives code
  pub header : code.program ≡ p
  pub formed : (inputs registers outputs : List ℕ) → Room p inputs registers outputs →
      Formed p.count (length registers) (length inputs) (length outputs) (drop header_length file)
  pub reads : read_of p.count (drop header_length file) ≡ code.instructions
  pub counted : length code.instructions ≡ p.count

-- whether a buffer is too short
abbrev pub lacking : Program → List ℕ → List ℕ → List ℕ → Bool
lacking p inputs registers outputs =
    ltb (length inputs) p.inputs || ltb (length registers) p.registers || ltb (length outputs) p.outputs

-- what is known of a call before its run
pub record Fits (k : Call ℕ) (p : Program) : Type 0 where
  pub checked : gives p ≡ mapped (λ c. c.program) (check_of k.file)
  pub here : begins k ≤ p.count
  pub room : Room p k.inputs k.registers k.outputs

-- ---- an accepted program stands in its bytes
code-stands : (p : Program) (n : ℕ) (written set : ℕ → Bool) (bytes : List ℕ) (is : List Instruction) →
    code_of n p written set bytes ≡ gives is →
    ((inputs registers outputs : List ℕ) → Room p inputs registers outputs →
    Formed n (length registers) (length inputs) (length outputs) bytes) ×
    (read_of n bytes ≡ is)
unfolding code_of Formed read_of
code-stands p zero written set bytes is e =
    let c1 = passed 4 (ltb 0 (length bytes)) (refuse 10 (any p.outputs (λ o. not (set o))) >> gives []) is e in
    let c2 = passed 10 (any p.outputs (λ o. not (set o))) (gives []) is c1.1 in
    (λ inputs registers outputs r. tt, gives_inj c2.1)
code-stands p (suc n) written set bytes is e =
    let c1 = bound (instruction_of p written bytes) _ is e in
    let i = c1.0 in
    let c2 = bound (code_of n p (also written (uses i).writes) (also set (uses i).sets) (drop (length_of i) bytes)) _ is c1.2 in
    let m = instruction_means p written bytes i c1.1 in
    let h = code-stands p n (also written (uses i).writes) (also set (uses i).sets) (drop (length_of i) bytes) c2.0 c2.1 in (
      λ inputs registers outputs r. rw m.0 (
        range_wider _ _ _ _ _ _ i r.for_registers r.for_inputs r.for_outputs (range_means p i m.1),
        h.0 inputs registers outputs r,
      ),
      rw m.0 (ap (λ (js : List Instruction). i ∷ js) h.1 ∙ gives_inj c2.2),
    )

pub accepted-file : (file : List ℕ) (p : Program) → gives p ≡ mapped (λ c. c.program) (check_of file) → Accepted file p
accepted-file file p e =
    let m = mapped-gives (λ (c : Code). c.program) (check_of file) p e in
    let s = rw m.2 at (check_says file m.0 m.1).1 in
    let h = code-stands p p.count nothing nothing (drop header_length file) m.0.instructions s in
    let n = sym (rw m.2 at (accepted-sound file m.0 m.1).counted) in
    record { code = m.0; checks = m.1; header = m.2; formed = h.0; reads = h.1; counted = n }

-- ---- room
either : (a b c : Bool) → (refuse 13 a >> (refuse 13 b >> (refuse 13 c >> gives tt))) ≡ refuse 13 (a || b || c)
either true b c = refl
either false true c = refl
either false false true = refl
either false false false = refl

pub room_is : (p : Program) (inputs registers outputs : List ℕ) →
    room_for word_gates p inputs registers outputs ≡ refuse 13 (lacking p inputs registers outputs)
room_is p inputs registers outputs =
    either (ltb (length inputs) p.inputs) (ltb (length registers) p.registers) (ltb (length outputs) p.outputs)

pub room_means : (p : Program) (inputs registers outputs : List ℕ) (b : Bool) → b ≡ lacking p inputs registers outputs → b ≡ false →
    Room p inputs registers outputs
room_means p inputs registers outputs b e q =
    room_says word_gates p inputs registers outputs (room_is p inputs registers outputs ∙ rw (← e, q))

-- the parts that are lent
pub part_long : (n : ℕ) (ws : List ℕ) → n ≤ length ws → n ≡ length (take n ws)
part_long n ws h = sym (length-take n ws ∙ omega arith)
