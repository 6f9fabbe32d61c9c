-- `compiler::count_marks` meets its contract: the counts so far are those of the rows passed. Assumes nothing.
use Prim.Native.Nat.{◌≤◌}
use Rattle.compiler.specs.EmittingColumns.{packed_rows, Marked}
use Rattle.compiler.proofs.sizes.count_marks.Given as goal

abbrev pub invariant-loop-v : goal.invariant-loop-v
invariant-loop-v l =
    (l.v ≤ l.rows.layout.m) × Marked (λ v'. packed_rows l.rows.bytes.now l.rows.stride v' l.c) l.v l.set l.instructions
