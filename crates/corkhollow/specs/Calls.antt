-- The C interface: what a call returns and what it tells through lent numbers. Assumes nothing.
use Rattle.std.specs.Prelude.{ℕ, Bool, true, false, List}
use Rattle.laws.specs.Outcome.{Outcome, refused, gives}
use Rattle.weights.specs.declared.building.Usage.{Usage}
use Rattle.machine.specs.Runs.{Ended}

-- what is returned: 0, or the refusal's number
unfoldable pub returned : {A : Type 0} → Outcome A → ℕ
returned (refused n) = n
returned (gives a) = 0

-- a lent number after the call: a part of the result, or on a refusal what it was
unfoldable pub told : {A B : Type 0} → (A → B) → Outcome A → B → B
told part (refused n) old = old
told part (gives a) old = part a

-- ---- the parts of a run
abbrev pub registers_of : Ended ℕ → List ℕ
registers_of e = e.state.registers

abbrev pub outputs_of : Ended ℕ → List ℕ
outputs_of e = e.state.outputs

abbrev pub position_of : Ended ℕ → ℕ
position_of e = e.answer.position

abbrev pub count_of : Ended ℕ → ℕ
count_of e = e.answer.count

abbrev pub finished_of : Ended ℕ → Bool
finished_of e = e.answer.finished

-- the use that a flag stands for
abbrev pub usage_of : Bool → Usage
usage_of true = Usage.Signed
usage_of false = Usage.Plain
