-- What lists of instructions do to one register or one output of a lane: what they leave alone, and what the last to write it leaves there.
-- Assumes nothing.
use Prim.Native.Nat.{ℕ, zero, suc, ◌≤◌, ◌<◌}
use Rattle.std.specs.Prelude.{◌≡◌, ◌≢◌, length, set}
use Rattle.std.proofs.Math.Path.{refl}
use Rattle.std.proofs.Common.{ap, ◌∙◌, ⊎_elim, eq-or-lt_of_le, le_of_suc-le-suc, arith, get_or-set_other}
use mathlib.Core.List.{List, [], ◌∷◌}
use Rattle.std.proofs.Math.ListN.{get_or}
use Rattle.std.proofs.Math.Seq.{get_or-set_same}
use Rattle.laws.specs.Lists.{blocks, Each, each-blocks}
use Rattle.programs.specs.Instructions.{uses}
use Rattle.programs.specs.declared.description.Instruction.{Instruction}
use Rattle.programs.specs.declared.description.Instruction.TheVariants.{Ones, Zero, Input, Not, And, Or, Output}
use Rattle.machine.specs.Meaning.{bit_gates, State, step, exec, exec_long, exec_append}

-- what a register and an output hold
abbrev pub reg : ℕ → State ℕ → ℕ
reg r s = get_or s.registers r 0

abbrev pub out : ℕ → State ℕ → ℕ
out o s = get_or s.outputs o 0

-- an instruction that does not write register r, and one that does not set output o
abbrev pub Leaves : ℕ → Instruction → Type 0
Leaves r i = Each (λ w. r ≢ w) (uses i).writes

abbrev pub Passes : ℕ → Instruction → Type 0
Passes o i = Each (λ w. o ≢ w) (uses i).sets

module _ (inputs : List ℕ) where
  abbrev pub run : List Instruction → State ℕ → State ℕ
  run is s = exec bit_gates inputs is s

  -- ---- as many registers and outputs as before
  pub still_long : (is : List Instruction) (s : State ℕ) (n : ℕ) → n ≤ length s.registers → n ≤ length (run is s).registers
  still_long is s n h = rw (exec_long bit_gates inputs is s).0 h

  pub still_wide : (is : List Instruction) (s : State ℕ) (n : ℕ) → n ≤ length s.outputs → n ≤ length (run is s).outputs
  still_wide is s n h = rw (exec_long bit_gates inputs is s).1 h

  -- ---- what each instruction of a kind leaves alone
  module _ (f : State ℕ → ℕ) (P : Instruction → Type 0)
      (alone : (i : Instruction) (s : State ℕ) → P i → f (step bit_gates inputs i s) ≡ f s) where
    run_alone : (is : List Instruction) (s : State ℕ) → Each P is → f (run is s) ≡ f s
    unfolding exec
    run_alone [] s n = refl
    run_alone (i ∷ is) s n = run_alone is (step bit_gates inputs i s) n.1 ∙ alone i s n.0

    -- what block i leaves, where those after it leave it alone
    blocks_alone : (g : ℕ → List Instruction) (s : State ℕ) (n i : ℕ) → i < n → ((j : ℕ) → i < j → j < n → Each P (g j)) →
        f (run (blocks n g) s) ≡ f (run (g i) (run (blocks i g) s))
    unfolding blocks
    blocks_alone g s zero i h n = absurd (omega arith)
    blocks_alone g s (suc k) i h n =
        rw (exec_append bit_gates inputs (blocks k g) (g k) s)
        (⊎_elim
        (λ (q : i ≡ k). rw q)
        (λ (q : i < k). run_alone (g k) (run (blocks k g) s) (n k q (omega arith)) ∙
        blocks_alone g s k i q (λ j a b. n j a (omega arith)))
        (eq-or-lt_of_le (le_of_suc-le-suc h)))

  step_leaves : (r : ℕ) (i : Instruction) (s : State ℕ) → Leaves r i → reg r (step bit_gates inputs i s) ≡ reg r s
  step_leaves r (Ones to) s n = get_or-set_other s.registers to r _ 0 n.0
  step_leaves r (Zero to) s n = get_or-set_other s.registers to r _ 0 n.0
  step_leaves r (Input to x) s n = get_or-set_other s.registers to r _ 0 n.0
  step_leaves r (Not to a) s n = get_or-set_other s.registers to r _ 0 n.0
  step_leaves r (And to a b) s n = get_or-set_other s.registers to r _ 0 n.0
  step_leaves r (Or to a b) s n = get_or-set_other s.registers to r _ 0 n.0
  step_leaves r (Output o a) s n = refl

  step_passes : (o : ℕ) (i : Instruction) (s : State ℕ) → Passes o i → out o (step bit_gates inputs i s) ≡ out o s
  step_passes o (Ones to) s n = refl
  step_passes o (Zero to) s n = refl
  step_passes o (Input to x) s n = refl
  step_passes o (Not to a) s n = refl
  step_passes o (And to a b) s n = refl
  step_passes o (Or to a b) s n = refl
  step_passes o (Output w a) s n = get_or-set_other s.outputs w o _ 0 n.0

  pub run_leaves : (r : ℕ) (is : List Instruction) (s : State ℕ) → Each (Leaves r) is → reg r (run is s) ≡ reg r s
  run_leaves r = run_alone (reg r) (Leaves r) (step_leaves r)

  pub blocks_still : (r : ℕ) (g : ℕ → List Instruction) (s : State ℕ) (n : ℕ) → ((i : ℕ) → i < n → Each (Leaves r) (g i)) →
      reg r (run (blocks n g) s) ≡ reg r s
  blocks_still r g s n f = run_leaves r (blocks n g) s (each-blocks (Leaves r) g n f)

  pub blocks_leave : (r : ℕ) (g : ℕ → List Instruction) (s : State ℕ) (n i : ℕ) → i < n →
      ((j : ℕ) → i < j → j < n → Each (Leaves r) (g j)) → reg r (run (blocks n g) s) ≡ reg r (run (g i) (run (blocks i g) s))
  blocks_leave r = blocks_alone (reg r) (Leaves r) (step_leaves r)

  pub blocks_pass : (o : ℕ) (g : ℕ → List Instruction) (s : State ℕ) (n i : ℕ) → i < n →
      ((j : ℕ) → i < j → j < n → Each (Passes o) (g j)) → out o (run (blocks n g) s) ≡ out o (run (g i) (run (blocks i g) s))
  blocks_pass o = blocks_alone (out o) (Passes o) (step_passes o)

  -- ---- what an instruction leaves in the register that it writes, where those after it leave that alone
  pub writes-first : {x : ℕ} (i : Instruction) (is : List Instruction) (s : State ℕ) (to : ℕ) →
      (step bit_gates inputs i s).registers ≡ set s.registers to x → to < length s.registers → Each (Leaves to) is →
      reg to (run (i ∷ is) s) ≡ x
  unfolding exec
  writes-first {x} i is s to e h n =
      run_leaves to is (step bit_gates inputs i s) n ∙ (ap (λ (xs : List ℕ). get_or xs to 0) e ∙ get_or-set_same s.registers to x 0 h)

  -- and in the output that it sets
  pub output_first : (o a : ℕ) (is : List Instruction) (s : State ℕ) → o < length s.outputs → Each (Passes o) is →
      out o (run (Output o a ∷ is) s) ≡ reg a s
  unfolding exec
  output_first o a is s h n =
      run_alone (out o) (Passes o) (step_passes o) is _ n ∙ get_or-set_same s.outputs o _ 0 h

  -- ---- what each block leads on, all of them lead on
  pub blocks_lead : (f : ℕ → List Instruction) (s : State ℕ) (P : ℕ → State ℕ → Type 0) (n : ℕ) →
      ((i : ℕ) (t : State ℕ) → i < n → P i t → P (suc i) (run (f i) t)) → P 0 s → P n (run (blocks n f) s)
  unfolding blocks exec
  blocks_lead f s P zero lead p = p
  blocks_lead f s P (suc k) lead p =
      rw (exec_append bit_gates inputs (blocks k f) (f k) s)
      (lead k (run (blocks k f) s) (omega arith) (blocks_lead f s P k (λ i t l. lead i t (omega arith)) p))
