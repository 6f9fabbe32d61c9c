-- 01, "Runs, words, samples": each lane of a run by itself. A map of words that commutes with the gates commutes with a run, and taking one
-- bit of each word is such a map. Assumes nothing.
use Rattle.std.specs.Prelude.{ℕ, ◌^◌, ◌<◌, ◌≡◌, get_or}
use mathlib.Core.List.{List, map}
use Rattle.laws.specs.Words.{bit_at}
use Rattle.machine.specs.Meaning.{Gates, State}
use Rattle.machine.specs.Runs.{Ended}
use Rattle.machine.specs.Calls.{on_entry, Call}

-- ---- maps that commute with the gates
-- P holds of all that the gates make of what it holds of
pub record Closed {A : Type 0} (G : Gates A) (P : A → Type 0) : Type 0 where
  pub ones : P G.ones
  pub zeros : P G.zeros
  pub inverse : (x : A) → P x → P (G.inverse x)
  pub both : (x y : A) → P x → P y → P (G.both x y)
  pub either : (x y : A) → P x → P y → P (G.either x y)

-- f commutes with the gates where P holds
pub record Commutes {A B : Type 0} (G : Gates A) (H : Gates B) (P : A → Type 0) (f : A → B) : Type 0 where
  pub ones : f G.ones ≡ H.ones
  pub zeros : f G.zeros ≡ H.zeros
  pub inverse : (x : A) → P x → f (G.inverse x) ≡ H.inverse (f x)
  pub both : (x y : A) → P x → P y → f (G.both x y) ≡ H.both (f x) (f y)
  pub either : (x y : A) → P x → P y → f (G.either x y) ≡ H.either (f x) (f y)

-- P holds of each word of a list
abbrev pub All : {A : Type 0} → Gates A → (A → Type 0) → List A → Type 0
All G P xs = (i : ℕ) → P (get_or xs i G.zeros)

pub record Kept {A : Type 0} (G : Gates A) (P : A → Type 0) (s : State A) : Type 0 where
  pub registers : All G P s.registers
  pub outputs : All G P s.outputs

abbrev pub map_state : {A B : Type 0} → (A → B) → State A → State B
map_state f s = record { registers = map f s.registers; outputs = map f s.outputs }

abbrev pub map_ended : {A B : Type 0} → (A → B) → Ended A → Ended B
map_ended f e = record { answer = e.answer; state = map_state f e.state }

-- a word has 64 bits, and lane j is bit j of each
abbrev pub Word : ℕ → Type 0
Word x = x < 2 ^ 64

abbrev pub lane : ℕ → ℕ → ℕ
lane j x = bit_at x j

-- what is asked of the words that a call runs from; a start clears them
abbrev pub AllLent : {A : Type 0} → (A → Type 0) → Call A → Type 0
AllLent P k = on_entry k.entry (Unit {0}) (λ position. All k.gates P k.registers × All k.gates P k.outputs)
