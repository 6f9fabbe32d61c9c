-- 01, "Files": the seven instructions, their bytes, and reading one at the front of some bytes. Assumes nothing.
use Rattle.std.specs.Prelude.{ℕ, ◌+◌, not, cond, List, [], ◌∷◌, ◌++◌, codes, decimal, eqb, ltb, length, drop}
use Rattle.laws.specs.Outcome.{Outcome, refused, gives, refuse, ◌>>◌, ◌>>=◌}
use Rattle.fields.specs.Fields.{field_of}
use Rattle.programs.specs.Records.{record_bytes}
use Rattle.programs.specs.declared.description.Instruction.{Instruction}
use Rattle.programs.specs.declared.description.Instruction.TheVariants.{Ones, Zero, Input, Not, And, Or, Output}

-- ---- 01's table: kind, length and operands
abbrev pub kind_of : Instruction → ℕ
kind_of (Ones to) = 1
kind_of (Zero to) = 2
kind_of (Input to n) = 3
kind_of (Not to a) = 4
kind_of (And to a b) = 5
kind_of (Or to a b) = 6
kind_of (Output o a) = 7

abbrev pub length_of : Instruction → ℕ
length_of (Ones to) = 6
length_of (Zero to) = 6
length_of (Input to n) = 8
length_of (Not to a) = 8
length_of (And to a b) = 10
length_of (Or to a b) = 10
length_of (Output o a) = 8

abbrev pub operands_of : Instruction → List ℕ
operands_of (Ones to) = to ∷ []
operands_of (Zero to) = to ∷ []
operands_of (Input to n) = to ∷ n ∷ []
operands_of (Not to a) = to ∷ a ∷ []
operands_of (And to a b) = to ∷ a ∷ b ∷ []
operands_of (Or to a b) = to ∷ a ∷ b ∷ []
operands_of (Output o a) = o ∷ a ∷ []

-- the same table read from the kind: the instruction with these operands, of which it takes its own; 7 for a kind that is not 1 to 7
abbrev pub of_kind : ℕ → ℕ → ℕ → ℕ → Outcome Instruction
of_kind kind a b d =
    cond (eqb kind 1) (gives (Ones a))
    (cond (eqb kind 2) (gives (Zero a))
    (cond (eqb kind 3) (gives (Input a b))
    (cond (eqb kind 4) (gives (Not a b))
    (cond (eqb kind 5) (gives (And a b d))
    (cond (eqb kind 6) (gives (Or a b d))
    (cond (eqb kind 7) (gives (Output a b))
    (refused 7)))))))

-- what an instruction uses: the registers that it reads and writes, the inputs that it takes and the outputs that it sets
pub record Uses : Type 0 where
  pub reads : List ℕ
  pub writes : List ℕ
  pub takes : List ℕ
  pub sets : List ℕ

abbrev pub uses : Instruction → Uses
uses (Ones to) = record { reads = []; writes = to ∷ []; takes = []; sets = [] }
uses (Zero to) = record { reads = []; writes = to ∷ []; takes = []; sets = [] }
uses (Input to n) = record { reads = []; writes = to ∷ []; takes = n ∷ []; sets = [] }
uses (Not to a) = record { reads = a ∷ []; writes = to ∷ []; takes = []; sets = [] }
uses (And to a b) = record { reads = a ∷ b ∷ []; writes = to ∷ []; takes = []; sets = [] }
uses (Or to a b) = record { reads = a ∷ b ∷ []; writes = to ∷ []; takes = []; sets = [] }
uses (Output o a) = record { reads = a ∷ []; writes = []; takes = []; sets = o ∷ [] }

-- ---- text
-- numbers, each after a space
abbrev pub spaced : List ℕ → List ℕ
spaced [] = []
spaced (x ∷ xs) = codes " " ++ decimal x ++ spaced xs

abbrev pub name_of : Instruction → List ℕ
name_of (Ones to) = codes "ONES"
name_of (Zero to) = codes "ZERO"
name_of (Input to n) = codes "INPUT"
name_of (Not to a) = codes "NOT"
name_of (And to a b) = codes "AND"
name_of (Or to a b) = codes "OR"
name_of (Output o a) = codes "OUTPUT"

-- an instruction as a listing has it: its name, then its operands
abbrev pub listed : Instruction → List ℕ
listed i = name_of i ++ spaced (operands_of i)

-- ---- bytes
-- an instruction: length, kind and operands
unfoldable pub instruction_bytes : Instruction → List ℕ
instruction_bytes i = record_bytes (length_of i ∷ kind_of i ∷ operands_of i)

-- writing an instruction at byte `at` of a buffer of `room` bytes: the bytes that are laid down there
unfoldable pub encode_of : Instruction → ℕ → ℕ → Outcome (List ℕ)
encode_of i at room = do
  refuse 13 (ltb room (at + length_of i))
  gives (instruction_bytes i)

-- an instruction whose length field must be its kind's
unfoldable pub sized_of : ℕ → Instruction → Outcome Instruction
sized_of len i = do
  refuse 7 (not (eqb len (length_of i)))
  gives i

-- the instruction at the front of some bytes: refusals 1 and 7
unfoldable pub decode_of : List ℕ → Outcome Instruction
decode_of bytes = do
  refuse 1 (ltb (length bytes) 4)
  refuse 1 (ltb (length bytes) (field_of bytes 0))
  i ← of_kind (field_of bytes 2) (field_of bytes 4) (field_of bytes 6) (field_of bytes 8)
  sized_of (field_of bytes 0) i

-- the instruction at byte `at` of a file
unfoldable pub decode_at : List ℕ → ℕ → Outcome Instruction
decode_at file at = decode_of (drop at file)
