-- What one instruction does where it stands in a file's bytes, for code that has read its kind and its operands. Assumes nothing.
use Rattle.std.specs.Prelude.{ℕ, zero, suc, ◌+◌, ◌*◌, ◌≤◌, ◌<◌, ◌≡◌, List, length, get_or, set, drop}
use Rattle.std.specs.Int.Bits.{bit_and, bit_or}
use Rattle.laws.specs.Outcome.{gives}
use Rattle.fields.specs.Fields.{field_of}
use Rattle.programs.specs.Instructions.{length_of, decode_of}
use Rattle.programs.specs.declared.description.Instruction.{Instruction}
use Rattle.programs.specs.declared.description.Instruction.TheVariants.{And, Or}
use Rattle.machine.specs.Meaning.{word_gates, State, step}
use Rattle.checker.specs.Standing.{ReadyAt, Gate}

abbrev pub state : List ℕ → List ℕ → State ℕ
state rs os = record { registers = rs; outputs = os }

-- the two kinds of gates with two operands, AND and OR: their kind, what they make of two words, and the instruction
pub data Connective : Type 0 where
  conjunction : Connective
  disjunction : Connective

abbrev pub gate_kind : Connective → ℕ
gate_kind conjunction = 5
gate_kind disjunction = 6

abbrev pub gate_op : Connective → ℕ → ℕ → ℕ
gate_op conjunction = bit_and
gate_op disjunction = bit_or

abbrev pub gate_of : Connective → ℕ → ℕ → ℕ → Instruction
gate_of conjunction = And
gate_of disjunction = Or

-- the instruction that a gate's fields spell
abbrev pub gate_at : Connective → List ℕ → ℕ → Instruction
gate_at g file at = gate_of g (field_of file (at + 4)) (field_of file (at + 6)) (field_of file (at + 8))

-- what a gate at a byte does
unfoldable pub gate_words : Connective → List ℕ → ℕ → List ℕ → List ℕ
gate_words g file at rs =
    set rs (field_of file (at + 4)) (gate_op g (get_or rs (field_of file (at + 6)) 0) (get_or rs (field_of file (at + 8)) 0))

-- gates one after another from a byte on: that their kinds are read there, that they stand there, and what n of them do
abbrev pub Kinds : Connective → List ℕ → ℕ → ℕ → Type 0
Kinds g file at n = (k : ℕ) → k < n → field_of file (at + k * 10 + 2) ≡ gate_kind g

abbrev pub Gates : List ℕ → ℕ → ℕ → ℕ → Type 0
Gates file at nr n = (k : ℕ) → k < n → Gate file (at + k * 10) nr

unfoldable pub gates_words : Connective → List ℕ → ℕ → ℕ → List ℕ → List ℕ
gates_words g file at zero rs = rs
gates_words g file at (suc n) rs = gate_words g file (at + n * 10) (gates_words g file at n rs)

-- what an instruction does at a byte: where the next begins, and the registers and outputs after it
pub record Does (file : List ℕ) (at : ℕ) (ins rs os : List ℕ) (next : ℕ) (rs' os' : List ℕ) : Type 0 where
  pub i : Instruction
  pub reads : decode_of (drop at file) ≡ gives i
  pub ahead : next ≡ at + length_of i
  pub does : step word_gates ins i (state rs os) ≡ state rs' os'
  pub long : length rs' ≡ length rs
  pub wide : length os' ≡ length os

-- an instruction whose kind has been read
pub record Found (file : List ℕ) (at : ℕ) (ins rs os : List ℕ) (k : ℕ) : Type 0 where
  pub ready : ReadyAt file at (length rs) (length ins) (length os)
  pub kind : k ≡ field_of file (at + 2)

-- and both its operands
pub record Operands (file : List ℕ) (at : ℕ) (ins rs os : List ℕ) (k to a : ℕ) : Type 0 where
  pub found : Found file at ins rs os k
  pub first : to ≡ field_of file (at + 4)
  pub second : a ≡ field_of file (at + 6)
  pub room : at + 8 ≤ length file

-- the kind is none of those that are tried before OUTPUT
pub record Last (k : ℕ) : Type 0 where
  pub ones : k ≡ 1 → ⊥
  pub zero : k ≡ 2 → ⊥
  pub input : k ≡ 3 → ⊥
  pub not : k ≡ 4 → ⊥
  pub and : k ≡ 5 → ⊥
  pub or : k ≡ 6 → ⊥
