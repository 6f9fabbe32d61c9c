-- 01, "Files", with 02, orders 8 and 10: the limits of a program. Assumes nothing.
use Rattle.std.specs.Prelude.{ℕ, ◌+◌, Bool, false, not, ◌&&◌, cond, List, eqb, leb, replicate}
use Rattle.fields.specs.Limits.{outside}
use Rattle.programs.specs.Width.{row_bits}
use Rattle.programs.specs.declared.description.Program.{Program}

-- Definitions `.._under` are told how many inputs and instructions they allow, so that limits can be compared (engine/Raised); those that
-- contracts cite are the same at these limits.
abbrev pub most_registers : ℕ
most_registers = 1024

abbrev pub most_inputs : ℕ
most_inputs = 192

abbrev pub most_outputs : ℕ
most_outputs = 8

abbrev pub most_rows : ℕ
most_rows = 128

abbrev pub most_instructions : ℕ
most_instructions = 262144

-- whether a number is 1 to most
abbrev pub among : ℕ → ℕ → Bool
among most x = not (outside most x)

-- the value bits of rows, and none for rows that are not 1 to 128: what code has that is told any number of rows
unfoldable pub value_bits : ℕ → ℕ
value_bits rows = cond (among most_rows rows) (row_bits rows) 0

-- whether rows are 1 to 128 and outputs are their value bits plus 1 (02, order 10)
abbrev pub suited : ℕ → ℕ → Bool
suited rows outputs = among most_rows rows && eqb outputs (1 + row_bits rows)

-- whether a header's numbers are within the limits, with at most `wide` inputs and `long` instructions
abbrev pub within_under : ℕ → ℕ → Program → Bool
within_under wide long p =
    among most_registers p.registers && among wide p.inputs && among most_outputs p.outputs && suited p.rows p.outputs &&
    leb p.count long

-- at the limits
abbrev pub within : Program → Bool
within = within_under most_inputs most_instructions

-- no register written, no output set; shut, since a thousand of them in a goal help nobody
unfoldable pub unwritten : List Bool
unwritten = replicate most_registers false

unfoldable pub unset : List Bool
unset = replicate most_outputs false
