-- 01, "The engine's no": what checking a program file comes to. Assumes nothing.
use Rattle.std.specs.Prelude.{ℕ, zero, suc, Bool, false, not, ◌&&◌, ◌||◌, List, [], ◌∷◌, eqb, ltb, length, drop}
use Rattle.laws.specs.Sums.{any}
use Rattle.laws.specs.Every.{every}
use Rattle.laws.specs.Outcome.{Outcome, gives, refuse, ◌>>◌, ◌>>=◌}
use Rattle.programs.specs.Limits.{most_inputs, most_instructions}
use Rattle.programs.specs.Instructions.{uses, length_of, decode_of}
use Rattle.programs.specs.Header.{header_length, header_under}
use Rattle.programs.specs.declared.description.Program.{Program}
use Rattle.programs.specs.declared.description.Instruction.{Instruction}

-- an accepted program: its header and its instructions
pub record Code : Type 0 where
  pub program : Program
  pub instructions : List Instruction

-- the numbers that pass a test, or are in the list
unfoldable pub also : (ℕ → Bool) → List ℕ → ℕ → Bool
also t [] r = t r
also t (x ∷ xs) r = eqb x r || also t xs r

-- whether each operand is below its count
abbrev pub in_range : Program → Instruction → Bool
in_range p i =
    every (λ r. ltb r p.registers) (uses i).writes && every (λ r. ltb r p.registers) (uses i).reads &&
    every (λ n. ltb n p.inputs) (uses i).takes && every (λ o. ltb o p.outputs) (uses i).sets

-- one instruction at the front of the bytes, where those before it wrote what passes the test: refusals 1, 7, 8 and 9
unfoldable pub instruction_of : Program → (ℕ → Bool) → List ℕ → Outcome Instruction
instruction_of p written bytes = do
  i ← decode_of bytes
  refuse 8 (not (in_range p i))
  refuse 9 (not (every written (uses i).reads))
  gives i

-- n instructions in the bytes, where those before them wrote and set what passes the tests: instruction by instruction, then 4 for bytes
-- left over, then 10
unfoldable pub code_of : ℕ → Program → (ℕ → Bool) → (ℕ → Bool) → List ℕ → Outcome (List Instruction)
code_of zero p written set bytes = do
  refuse 4 (ltb 0 (length bytes))
  refuse 10 (any p.outputs (λ o. not (set o)))
  gives []
code_of (suc n) p written set bytes = do
  i ← instruction_of p written bytes
  is ← code_of n p (also written (uses i).writes) (also set (uses i).sets) (drop (length_of i) bytes)
  gives (i ∷ is)

abbrev pub nothing : ℕ → Bool
nothing r = false

-- the instructions of a program file, behind its header
abbrev pub body_of : List ℕ → Program → Outcome Code
body_of file p = do
  is ← code_of p.count p nothing nothing (drop header_length file)
  gives (record { program = p; instructions = is })

-- a program file, where at most `wide` inputs and `long` instructions are allowed: header first, then its instructions
unfoldable pub check_under : ℕ → ℕ → List ℕ → Outcome Code
check_under wide long file = do
  p ← header_under wide long file
  body_of file p

-- at the limits of a program
abbrev pub check_of : List ℕ → Outcome Code
check_of = check_under most_inputs most_instructions
