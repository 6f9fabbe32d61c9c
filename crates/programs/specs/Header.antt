-- 01, "Files", with 02, order 10: the header of a program, its bytes, and reading one at the front of a file. Assumes nothing.
use Rattle.std.specs.Prelude.{ℕ, ◌+◌, ◌*◌, ◌/◌, ◌%◌, not, List, [], ◌∷◌, ◌++◌, eqb, ltb, length}
use Rattle.laws.specs.Outcome.{Outcome, gives, refuse, ◌>>◌}
use Rattle.fields.specs.Fields.{field_of}
use Rattle.programs.specs.Limits.{most_inputs, most_instructions, within_under}
use Rattle.programs.specs.Records.{record_bytes}
use Rattle.programs.specs.Instructions.{instruction_bytes}
use Rattle.programs.specs.declared.description.Program.{Program}
use Rattle.programs.specs.declared.description.Instruction.{Instruction}

-- the length and the kind of a program's header
abbrev pub header_length : ℕ
header_length = 16

abbrev pub header_kind : ℕ
header_kind = 16

-- a header: length, kind, registers, inputs, outputs, rows, and the 32-bit count, its low field first
unfoldable pub header_bytes : Program → List ℕ
header_bytes p =
    record_bytes
    (header_length ∷ header_kind ∷ p.registers ∷ p.inputs ∷ p.outputs ∷ p.rows ∷ p.count % 65536 ∷ p.count / 65536 ∷ [])

-- the numbers that a header's fields say
unfoldable pub numbers_of : List ℕ → Program
numbers_of file =
    record {
      registers = field_of file 4;
      inputs = field_of file 6;
      outputs = field_of file 8;
      rows = field_of file 10;
      count = field_of file 12 + 65536 * field_of file 14;
    }

-- a header that is there and of its kind, with the numbers p, where at most `wide` inputs and `long` instructions are allowed: its length
-- is tried before its numbers (02, order 10)
unfoldable pub limits_under : ℕ → ℕ → List ℕ → Program → Outcome Program
limits_under wide long file p = do
  refuse 4 (not (eqb (field_of file 0) header_length))
  refuse 3 (not (within_under wide long p))
  gives p

-- the header at the front of a file, with these limits: where four bytes are there, the kind is tried before the length (02, order 3);
-- then its numbers
unfoldable pub header_under : ℕ → ℕ → List ℕ → Outcome Program
header_under wide long file = do
  refuse 1 (ltb (length file) 4)
  refuse 2 (not (eqb (field_of file 2) header_kind))
  refuse 1 (ltb (length file) header_length)
  limits_under wide long file (numbers_of file)

-- at the limits of a program
abbrev pub limits_of : List ℕ → Program → Outcome Program
limits_of = limits_under most_inputs most_instructions

abbrev pub header_of : List ℕ → Outcome Program
header_of = header_under most_inputs most_instructions

-- writing a header at the front of a buffer of `room` bytes, with these limits: the bytes that are laid down
unfoldable pub write_header_under : ℕ → ℕ → Program → ℕ → Outcome (List ℕ)
write_header_under wide long header room = do
  refuse 3 (not (within_under wide long header))
  refuse 13 (ltb room header_length)
  gives (header_bytes header)

-- at the limits of a program
abbrev pub write_header_of : Program → ℕ → Outcome (List ℕ)
write_header_of = write_header_under most_inputs most_instructions

-- the bytes of instructions, one after another
unfoldable pub code_bytes : List Instruction → List ℕ
code_bytes [] = []
code_bytes (i ∷ is) = instruction_bytes i ++ code_bytes is

-- a program file: the header, then the instructions
unfoldable pub program_file : Program → List Instruction → List ℕ
program_file p is = header_bytes p ++ code_bytes is
