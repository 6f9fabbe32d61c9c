-- `compiler::columns` meets its contract: the columns passed are written, and h is live before the next. Assumes nothing.
use Rattle.std.specs.Prelude.{ℕ}
use Rattle.compiler.specs.Translation.{column}
use Rattle.compiler.specs.Emitting.{Parts}
use Rattle.compiler.specs.EmittingColumns.{packed_rows, Live}
use Rattle.compiler.proofs.columns.columns.Given as goal

abbrev pub invariant-loop-c : goal.invariant-loop-c
invariant-loop-c l =
    let m : ℕ = l.rows.layout.m in
    let bits : ℕ → ℕ → ℕ = packed_rows l.rows.bytes.now l.rows.stride in
    Live bits m l.c l.h × Parts (column l.rows.layout.k m bits) l.n l.initial.to l.initial.out l.c l.out l.to
