-- 02, order 3: the checks of a program's header in 01's order, which answers are others now that the kind is tried before shortness, and
-- what an instruction that is cut comes to. Assumes nothing.
use Rattle.std.specs.Prelude.{ℕ, ◌≤◌, ◌<◌, ◌≡◌, not, List, ◌++◌, ◌⊎◌, eqb, ltb, length, take}
use Rattle.std.proofs.Common.{◌∙◌, inl, inr, arith, length-append, length-take-le}
use borrow.Author.Tests.{lt-ltb, le-ltb}
use Rattle.laws.specs.Tests.{lt-or_ge}
use Rattle.laws.specs.Outcome.{Outcome, refused, refuse, ◌>>◌}
use Rattle.fields.specs.Fields.{field_of, field-front}
use Rattle.programs.specs.Instructions.{length_of, instruction_bytes, decode_of}
use Rattle.programs.specs.Reading.{length_instruction}
use Rattle.programs.specs.Inverse.{decode_reads, decode_written}
use Rattle.programs.specs.Header.{header_length, header_kind, numbers_of, limits_of}
use Rattle.programs.specs.declared.description.Program.{Program}
use Rattle.programs.specs.declared.description.Instruction.{Instruction}

-- a program file that is short of its header
abbrev pub Short : List ℕ → Type 0
Short file = length file < header_length

-- 01's order, shortness before the kind, to compare with; no contract cites it
unfoldable pub header_short_first : List ℕ → Outcome Program
header_short_first file = do
  refuse 1 (ltb (length file) header_length)
  refuse 2 (not (eqb (field_of file 2) header_kind))
  limits_of file (numbers_of file)

-- ---- an instruction keeps 1 before 7: cut short it is 1, whatever its kind
module _ (bytes : List ℕ) where
  pub decode_few : length bytes < 4 → decode_of bytes ≡ refused 1
  unfolding decode_of
  decode_few h = rw (lt-ltb (length bytes) 4 h)

  pub decode_short : 4 ≤ length bytes → length bytes < field_of bytes 0 → decode_of bytes ≡ refused 1
  unfolding decode_of
  decode_short a h = rw (le-ltb (length bytes) 4 a, lt-ltb (length bytes) (field_of bytes 0) h)

-- so a sound one is, wherever it is cut
pub decode_cut : (i : Instruction) (rest : List ℕ) (n : ℕ) → n < length_of i → decode_of (take n (instruction_bytes i ++ rest)) ≡ refused 1
decode_cut i rest n h = cut (lt-or_ge n 4)
  where
    whole : List ℕ
    whole = instruction_bytes i ++ rest

    long : length (take n whole) ≡ n
    long = length-take-le n whole (omega (arith, length-append (instruction_bytes i) rest, length_instruction i))

    cut : (n < 4) ⊎ (4 ≤ n) → decode_of (take n whole) ≡ refused 1
    cut (inl l) = decode_few (take n whole) (omega (arith, long))
    cut (inr l) =
        let field : field_of (take n whole) 0 ≡ length_of i =
        field-front n whole 0 (omega arith) ∙ (decode_reads whole i (decode_written i rest)).long in
        decode_short (take n whole) (omega (arith, long)) (rw (long, field) h)
