-- 01, "Files": what instructions do to registers and outputs. Assumes nothing.
use Rattle.std.specs.Prelude.{ℕ, ◌-◌, ◌^◌, min, max, ◌≡◌, length, get_or, set}
use Rattle.std.proofs.Math.Path.{refl}
use Rattle.std.proofs.Common.{◌∙◌, length-set}
use mathlib.Core.List.{List, [], ◌∷◌, ◌++◌}
use Rattle.std.specs.Int.Bits.{bit_and, bit_or}
use Rattle.programs.specs.declared.description.Instruction.{Instruction}
use Rattle.programs.specs.declared.description.Instruction.TheVariants.{Ones, Zero, Input, Not, And, Or, Output}

-- what a register holds: all ones, all zeros, and NOT, AND and OR of what registers hold
pub record Gates (A : Type 0) : Type 0 where
  pub ones : A
  pub zeros : A
  pub inverse : A → A
  pub both : A → A → A
  pub either : A → A → A

-- 01's registers are 64-bit words
abbrev pub word_gates : Gates ℕ
word_gates = record { ones = 2 ^ 64 - 1; zeros = 0; inverse = λ x. (2 ^ 64 - 1) - x; both = bit_and; either = bit_or }

-- one lane of them is a single bit, 0 or 1
abbrev pub bit_gates : Gates ℕ
bit_gates = record { ones = 1; zeros = 0; inverse = λ x. 1 - x; both = min; either = max }

pub record State (A : Type 0) : Type 0 where
  pub registers : List A
  pub outputs : List A

module _ {A : Type 0} (G : Gates A) (inputs : List A) where
  abbrev held : State A → ℕ → A
  held s r = get_or s.registers r G.zeros

  abbrev pub into : ℕ → A → State A → State A
  into r x s = record { registers = set s.registers r x; outputs = s.outputs }

  -- what one instruction does; it reads before it writes
  abbrev pub step : Instruction → State A → State A
  step (Ones to) s = into to G.ones s
  step (Zero to) s = into to G.zeros s
  step (Input to n) s = into to (get_or inputs n G.zeros) s
  step (Not to a) s = into to (G.inverse (held s a)) s
  step (And to a b) s = into to (G.both (held s a) (held s b)) s
  step (Or to a b) s = into to (G.either (held s a) (held s b)) s
  step (Output o a) s = record { registers = s.registers; outputs = set s.outputs o (held s a) }

  -- what instructions do, one after another
  unfoldable pub exec : List Instruction → State A → State A
  exec [] s = s
  exec (i ∷ is) s = exec is (step i s)

  -- ---- no word is added or lost
  pub step_long : (i : Instruction) (s : State A) →
      (length (step i s).registers ≡ length s.registers) × (length (step i s).outputs ≡ length s.outputs)
  step_long (Ones to) s = (length-set s.registers to _, refl)
  step_long (Zero to) s = (length-set s.registers to _, refl)
  step_long (Input to n) s = (length-set s.registers to _, refl)
  step_long (Not to a) s = (length-set s.registers to _, refl)
  step_long (And to a b) s = (length-set s.registers to _, refl)
  step_long (Or to a b) s = (length-set s.registers to _, refl)
  step_long (Output o a) s = (refl, length-set s.outputs o _)

  pub exec_long : (is : List Instruction) (s : State A) →
      (length (exec is s).registers ≡ length s.registers) × (length (exec is s).outputs ≡ length s.outputs)
  unfolding exec
  exec_long [] s = (refl, refl)
  exec_long (i ∷ is) s =
      let l = exec_long is (step i s) in
      let m = step_long i s in
      (l.0 ∙ m.0, l.1 ∙ m.1)

  -- ---- one list of instructions after another
  pub exec_append : (is js : List Instruction) (s : State A) → exec (is ++ js) s ≡ exec js (exec is s)
  unfolding exec
  exec_append [] js s = refl
  exec_append (i ∷ is) js s = exec_append is js (step i s)
