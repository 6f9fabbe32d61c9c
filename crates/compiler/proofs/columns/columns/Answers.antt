-- `compiler::columns` meets its contract: the columns passed are written, and h is live before the next. Assumes nothing.
use borrow.Author.Rules.{rules}
use native.Mathlib.Omega.{arith}
use Rattle.compiler.specs.Emitting.{parts_none, parts-space, parts_more}
use Rattle.compiler.specs.EmittingColumns.{live-first}
use Rattle.compiler.proofs.columns.columns.Goals as goal

pub loop-c-init : goal.loop-c-init
loop-c-init c =
    let asked = c.requires in
    (live-first _ _ asked.3.some_rows, parts_none asked.0)

pub column-done-requires : goal.column-done-requires
column-done-requires c =
    let loop = c.loop-c in
    let asked = c.requires in
    let room = asked.3.room loop.c c.loop-c-test.true in (
      parts-space loop.invariant.1 c.loop-c-test.true,
      search rules,
      search rules,
      loop.invariant.0,
      omega (arith, loop.invariant.0.is, room),
    )

pub loop-c-preserved : goal.loop-c-preserved
loop-c-preserved c =
    (c.column-done.ensures.1, parts_more c.loop-c.invariant.1 c.loop-c-test.true c.column-done.ensures.0)
