-- `compiler::count_columns` meets its contract: the count so far is that of the columns passed. Assumes nothing.
use borrow.Author.Rules.{rules}
use Rattle.compiler.specs.EmittingColumns.{columns-none, columns_more}
use Rattle.compiler.proofs.sizes.count_columns.Goals as goal

pub loop-c-init : goal.loop-c-init
loop-c-init c = columns-none _ _ _ c.requires.3.some_rows

pub loop-c-preserved : goal.loop-c-preserved
loop-c-preserved c =
    let bits = c.requires.3.bits in
    columns_more (search rules) (λ v l. bits v c.loop-c.c l c.loop-c-test.true) c.loop-c-test.true c.loop-c.invariant
    c.count_column-passed.ensures
