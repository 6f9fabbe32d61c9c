-- Drawing in one call, beyond what 01 lists: a program is checked, 64 strings are sliced, the program is started on words of the engine's
-- own, and its outputs are read, of as many rows as its header says (02, order 10). Assumes nothing.
use Rattle.std.specs.Prelude.{ℕ, List, length, ltb, ℤ, replicate}
use Rattle.laws.specs.Outcome.{Outcome, refused, gives, refuse, ◌>>◌, ◌>>=◌}
use Rattle.fields.specs.Limits.{most_columns}
use Rattle.programs.specs.Limits.{most_inputs, most_instructions}
use Rattle.checker.specs.Checks.{check_under, check_of}
use Rattle.machine.specs.Meaning.{word_gates}
use Rattle.machine.specs.Runs.{start_under}
use Rattle.lanes.specs.Slicing.{lanes, slice_under}
use Rattle.lanes.specs.Samples.{Coding, read_of, samples_of, signed_samples_of}
use Rattle.drawing.specs.declared.Batch.{Batch}

-- drawing into a buffer of `room` places, with a way of reading the outputs of so many rows, where at most `most` columns, `wide` inputs
-- and `long` instructions are allowed: the program's own refusals, 13 and 5 for the strings, 13 for the samples
unfoldable pub drawn_under : {A : Type 0} → ℕ → ℕ → ℕ → List ℕ → List ℕ → ℕ → (ℕ → List ℕ → Outcome A) → Outcome A
drawn_under most wide long program strings room read = do
  c ← check_under wide long program
  words ← slice_under most c.program.inputs strings c.program.inputs
  refuse 13 (ltb room lanes)
  e ← start_under word_gates wide long program words (replicate c.program.registers 0) (replicate c.program.outputs 0)
      c.program.count
  read c.program.rows e.state.outputs

-- at the limits of columns and of a program
abbrev pub drawn_with : {A : Type 0} → List ℕ → List ℕ → ℕ → (ℕ → List ℕ → Outcome A) → Outcome A
drawn_with = drawn_under most_columns most_inputs most_instructions

-- drawing with a way of writing what each lane gives, and a sign word
abbrev pub drawn_by : {A : Type 0} → Coding A → List ℕ → List ℕ → ℕ → ℕ → Outcome (List A)
drawn_by code program strings sign room = drawn_with program strings room (λ rows outputs. read_of code rows outputs sign room)

-- drawing samples, and signed samples with a sign word
abbrev pub draw_of : List ℕ → List ℕ → ℕ → Outcome (List ℕ)
draw_of program strings room = drawn_with program strings room (λ rows outputs. samples_of rows outputs room)

abbrev pub draw_signed_of : List ℕ → List ℕ → ℕ → ℕ → Outcome (List ℤ)
draw_signed_of program strings sign room = drawn_with program strings room (λ rows outputs. signed_samples_of rows outputs sign room)

-- what a batch leaves before it is read: the rows in the program's header, and the outputs
pub record Left : Type 0 where
  pub rows : ℕ
  pub outputs : List ℕ

abbrev pub left : ℕ → List ℕ → Left
left rows outputs = record { rows = rows; outputs = outputs }

-- and as the code has it: the rows, and how many outputs there are
abbrev pub batched : Left → Batch
batched l = record { rows = l.rows; outputs = length l.outputs }

abbrev pub batch_of : List ℕ → List ℕ → ℕ → Outcome Left
batch_of program strings room = drawn_with program strings room (λ rows outputs. gives (left rows outputs))

-- refusal n of what comes after the program's own checks
unfoldable pub after_own : List ℕ → ℕ → Outcome (Unit {0})
after_own program n = do
  c ← check_of program
  refused n
