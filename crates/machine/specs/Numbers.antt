-- 01, "Runs, words, samples": when a run stops, and that no number in its answer depends on the words. Assumes nothing.
use Rattle.std.specs.Prelude.{ℕ, ◌+◌, ◌≤◌, ◌<◌, ◌≡◌, true, false, ◌↔◌}
use Rattle.machine.specs.declared.runs.Run.{Run}

-- 01's rules for the answer of a run from a position on, in a program of so many instructions
pub record Obeys (position budget count : ℕ) (r : Run) : Type 0 where
  pub own_budget : r.budget ≡ budget
  pub moved : r.position ≡ position + r.count
  pub afforded : r.count ≤ budget
  -- stopped when the budget is used up and instructions remain, and in no other case
  pub stopped : (r.finished ≡ false) ↔ ((r.count ≡ budget) × (r.position < count))
  -- finished with the instruction count as position
  pub ended : (r.finished ≡ true) ↔ (r.position ≡ count)
