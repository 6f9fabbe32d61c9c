-- 01, "Runs, words, samples": what a start and a resume come to. Assumes nothing.
use Rattle.std.specs.Prelude.{ℕ, ◌+◌, ◌-◌, min, List, eqb, ltb, length, take, drop, replicate}
use Rattle.laws.specs.Outcome.{Outcome, gives, refuse, ◌>>◌, ◌>>=◌}
use Rattle.programs.specs.Limits.{most_inputs, most_instructions}
use Rattle.programs.specs.declared.description.Program.{Program}
use Rattle.programs.specs.declared.description.Instruction.{Instruction}
use Rattle.machine.specs.Meaning.{Gates, word_gates, State, exec}
use Rattle.checker.specs.Checks.{check_under}
use Rattle.machine.specs.declared.runs.Run.{Run}

-- what a run comes to: its answer, and the program's registers and outputs after it
pub record Ended (A : Type 0) : Type 0 where
  pub answer : Run
  pub state : State A

-- how many instructions a run carries out: as many as the budget allows and are left
abbrev pub steps : ℕ → ℕ → ℕ → ℕ
steps budget position count = min budget (count - position)

-- these instructions, from the position on
abbrev pub carried : ℕ → ℕ → List Instruction → List Instruction
carried budget position is = take (steps budget position (length is)) (drop position is)

-- the answer: finished where no instruction is left
abbrev pub run_answer : ℕ → ℕ → ℕ → Run
run_answer budget position count =
    record {
      finished = eqb (position + steps budget position count) count;
      position = position + steps budget position count;
      count = steps budget position count;
      budget = budget;
    }

module _ {A : Type 0} (G : Gates A) where
  -- a run from a position on
  unfoldable pub run_of : List Instruction → List A → ℕ → ℕ → State A → Ended A
  run_of is inputs position budget s =
      record {
        answer = run_answer budget position (length is);
        state = exec G inputs (carried budget position is) s;
      }

  -- 13: buffers shorter than the header says
  abbrev pub room_for : Program → List A → List A → List A → Outcome (Unit {0})
  room_for p inputs registers outputs = do
    refuse 13 (ltb (length inputs) p.inputs)
    refuse 13 (ltb (length registers) p.registers)
    refuse 13 (ltb (length outputs) p.outputs)
    gives tt

  -- a start, where a program has at most `wide` inputs and `long` instructions: its registers and outputs are 0, and it begins at
  -- instruction 0
  unfoldable pub start_under : ℕ → ℕ → List ℕ → List A → List A → List A → ℕ → Outcome (Ended A)
  start_under wide long file inputs registers outputs budget = do
    c ← check_under wide long file
    room_for c.program inputs registers outputs
    gives (run_of c.instructions inputs 0 budget
        (record { registers = replicate c.program.registers G.zeros; outputs = replicate c.program.outputs G.zeros }))

  -- a resume, with these limits: it begins at the position given, and clears nothing
  unfoldable pub resume_under : ℕ → ℕ → List ℕ → List A → List A → List A → ℕ → ℕ → Outcome (Ended A)
  resume_under wide long file inputs registers outputs position budget = do
    c ← check_under wide long file
    refuse 12 (ltb (length c.instructions) position)
    room_for c.program inputs registers outputs
    gives (run_of c.instructions inputs position budget
        (record { registers = take c.program.registers registers; outputs = take c.program.outputs outputs }))

  -- both at the limits of a program
  abbrev pub start_on : List ℕ → List A → List A → List A → ℕ → Outcome (Ended A)
  start_on = start_under most_inputs most_instructions

  abbrev pub resume_on : List ℕ → List A → List A → List A → ℕ → ℕ → Outcome (Ended A)
  resume_on = resume_under most_inputs most_instructions

abbrev pub start_of : List ℕ → List ℕ → List ℕ → List ℕ → ℕ → Outcome (Ended ℕ)
start_of = start_on word_gates

abbrev pub resume_of : List ℕ → List ℕ → List ℕ → List ℕ → ℕ → ℕ → Outcome (Ended ℕ)
resume_of = resume_on word_gates
