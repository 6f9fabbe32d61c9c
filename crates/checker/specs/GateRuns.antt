-- What is left of a check, and runs of ANDs and ORs that leave its answer as it is. Assumes nothing.
use Rattle.std.specs.Prelude.{ℕ, suc, ◌+◌, ◌≤◌, ◌<◌, ◌≡◌, refl, Bool, true, List, ◌∷◌, length, set, drop}
use Rattle.std.proofs.Common.{◌∙◌, arith, drop-drop}
use Rattle.laws.specs.Outcome.{Outcome, gives, ◌>>=◌, mapped, bind_is, mapped-mapped}
use Rattle.programs.specs.Limits.{most_registers}
use Rattle.programs.specs.Instructions.{uses, length_of}
use Rattle.programs.specs.declared.description.Program.{Program}
use Rattle.programs.specs.declared.description.Instruction.{Instruction}
use Rattle.checker.specs.Checks.{also, instruction_of, code_of}
use Rattle.checker.specs.Standing.{first_of, second_of, third_of}
use Rattle.checker.specs.Operands.{flagged}

-- what is left of a check at a byte of a file: its refusal, or the header
unfoldable pub rest_of : List ℕ → Program → (ℕ → Bool) → (ℕ → Bool) → ℕ → ℕ → Outcome Program
rest_of file p written set n at = mapped (λ is. p) (code_of n p written set (drop at file))

-- ---- what is left of a check
-- of a result that is made of another, a part that does not depend on it
pub mapped-after : {A B C : Type 0} (c : C) (g : B → C) (f : A → B) → ((a : A) → g (f a) ≡ c) → (o : Outcome A) →
    mapped g (o >>= λ a. gives (f a)) ≡ mapped (λ a. c) o
mapped-after c g f e o = rw (bind_is o f) (mapped-mapped f g (λ a. c) o e)

pub rest_more : (file : List ℕ) (p : Program) (written set : ℕ → Bool) (n at : ℕ) (i : Instruction) →
    instruction_of p written (drop at file) ≡ gives i → rest_of file p written set (suc n) at ≡
    rest_of file p (also written (uses i).writes) (also set (uses i).sets) n (at + length_of i)
unfolding rest_of code_of
rest_more file p written set n at i e =
    rw (e, mapped-after p (λ is. p) (λ (is : List Instruction). i ∷ is) (λ is. refl), drop-drop (length_of i) at file)

-- ---- runs of gates
-- the operands of an AND or an OR that no refusal is due for
pub record SoundGate (file : List ℕ) (at registers : ℕ) (w : List Bool) : Type 0 where
  pub into : first_of file at < registers
  pub left : second_of file at < registers
  pub right : third_of file at < registers
  pub left_written : flagged w (second_of file at) ≡ true
  pub right_written : flagged w (third_of file at) ≡ true

-- where a run of one kind, AND or OR, is passed
pub record GateRun (file : List ℕ) (from kind registers : ℕ) (w : List Bool) : Type 0 where
  pub few : registers ≤ most_registers
  pub long : length w ≡ most_registers
  pub inside : from ≤ length file
  pub low : 5 ≤ kind
  pub high : kind ≤ 6

-- passing instructions that write registers and set no output, for every program with so many registers
pub record Passes (file : List ℕ) (registers n₀ from : ℕ) (w₀ : List Bool) (n at : ℕ) (w : List Bool) : Type 0 where
  pub same : (p : Program) → p.registers ≡ registers → (set : ℕ → Bool) →
      rest_of file p (flagged w) set n at ≡ rest_of file p (flagged w₀) set n₀ from
  pub less : n ≤ n₀
  pub inside : at ≤ length file
  pub long : length w ≡ length w₀

module _ (file : List ℕ) (registers n₀ from : ℕ) (w₀ : List Bool) where
  pub passes_none : (n : ℕ) → n ≡ n₀ → from ≤ length file → Passes file registers n₀ from w₀ n from w₀
  passes_none n e h = record { same = λ p q set. rw e; less = omega arith; inside = h; long = refl }

  module _ (n at : ℕ) (w : List Bool) (g : Passes file registers n₀ from w₀ n at w) where
    pub passes_then : (m to : ℕ) (v : List Bool) → Passes file registers n at w m to v → Passes file registers n₀ from w₀ m to v
    passes_then m to v b =
        record {
          same = λ p q set. (b.same p q set ∙ g.same p q set);
          less = omega (arith, b.less, g.less);
          inside = b.inside;
          long = b.long ∙ g.long;
        }
