-- `wanted::Rows::lay_string` meets its contract: from column i on the bits are the string's, and e goes on to the left. Assumes nothing.
use mathlib.Core.Path.{◌≡◌}
use Prim.Native.Nat.{◌*◌, ◌≤◌}
use lib.ListN.{length}
use Rattle.walk.specs.Walk.{file_rows}
use Rattle.walk.specs.Intervals.{first_number}
use Rattle.wanted.specs.Back.{LaidFrom}
use Rattle.wanted.proofs.Rows.lay_string.Given as goal

abbrev pub invariant-loop-i : goal.invariant-loop-i
invariant-loop-i l =
    let n = l.self.columns in
    let rows = file_rows l.self.file.now n in
    (length l.string ≡ length l.initial.string) × (l.e ≤ 2 * l.self.rows) ×
    LaidFrom rows l.self.rows n (first_number rows l.self.rows n l.row l.c) l.i l.e l.initial.string l.string
