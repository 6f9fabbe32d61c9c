-- `compiler::count_columns` meets its contract: the count so far is that of the columns passed. Assumes nothing.
use Rattle.compiler.specs.EmittingColumns.{packed_rows, Columns}
use Rattle.compiler.proofs.sizes.count_columns.Given as goal

abbrev pub invariant-loop-c : goal.invariant-loop-c
invariant-loop-c l = Columns (packed_rows l.rows.bytes.now l.rows.stride) l.rows.layout.m l.n l.c l.h l.count
