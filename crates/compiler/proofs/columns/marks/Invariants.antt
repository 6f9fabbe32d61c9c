-- `compiler::marks` meets its contract: the marks of the rows below are still ahead, with j set rows met. Assumes nothing.
use Rattle.compiler.specs.EmittingColumns.{packed_rows, Rows}
use Rattle.compiler.proofs.columns.marks.Given as goal

abbrev pub invariant-loop-v : goal.invariant-loop-v
invariant-loop-v l =
    Rows l.rows.layout.k l.rows.layout.m (λ v. packed_rows l.rows.bytes.now l.rows.stride v l.c) l.at l.initial.out l.v l.j l.out l.to
