-- 01, "Runs, words, samples": what a run does not see of the words that are lent: what registers and outputs held before a start, and
-- inputs that no instruction takes. Assumes nothing.
use Rattle.std.specs.Prelude.{ℕ}
use Rattle.laws.specs.Lists.{Each}
use Rattle.programs.specs.Instructions.{uses}
use Rattle.programs.specs.declared.description.Instruction.{Instruction}

-- each input that the instruction takes is one of K
abbrev pub Takes : (ℕ → Type 0) → Instruction → Type 0
Takes K i = Each K (uses i).takes
