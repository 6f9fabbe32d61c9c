-- `walk::draw` meets its contract: before each column and each row, what is left of the walk is what the whole draws. Assumes nothing.
use Rattle.std.specs.Prelude.{◌≡◌, None}
use mathlib.Core.List.{List}
use Prim.Native.Nat.{ℕ, ◌+◌, ◌*◌, ◌≤◌}
use Rattle.fields.specs.Fields.{bit_of}
use Rattle.walk.specs.Walk as W
use Rattle.walk.specs.Turns.{Left, Within}
use Rattle.walk.proofs.draw.Given as goal

-- what is left of the walk of the file's rows is what the whole draws: before column c, and in it with i rows left
abbrev Here : List ℕ → List ℕ → ℕ → ℕ → ℕ → ℕ → ℕ → Type 0
Here file strings at m n = Left (W.file_rows file n) (bit_of strings at) m n (W.draw_at file strings at)

abbrev Inner : List ℕ → List ℕ → ℕ → ℕ → ℕ → ℕ → ℕ → ℕ → Type 0
Inner file strings at m n = Within (W.file_rows file n) (bit_of strings at) m n (W.draw_at file strings at)

abbrev pub invariant-loop-v : goal.invariant-loop-v
invariant-loop-v l = (l.hit ≡ None) × (l.d ≤ 2 * l.m + 1) × Inner l.file l.strings l.at l.m l.n l.c l.v l.d

abbrev pub invariant-walk : goal.invariant-walk
invariant-walk l = (l.hit ≡ None) × (l.d ≤ l.m) × Here l.file l.strings l.at l.m l.n l.c l.d
