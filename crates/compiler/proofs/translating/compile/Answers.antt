-- `compiler::compile` meets its contract: the file's checks, then the buffer's against the measured size, then the program is laid.
-- Assumes nothing.
use native.Mathlib.Omega.{arith}
use Rattle.laws.specs.Lists.{rest_is}
use Rattle.laws.specs.Outcome.{ends-refused, ends-given}
use Rattle.fields.specs.Refusal.{passed_on}
use Rattle.files.specs.Checks.{checked-whole}
use Rattle.compiler.specs.EmittingProgram.{checked-packed, compile_refused, compile_short, compile_gives}
use Rattle.compiler.proofs.translating.compile.Goals as goal

pub slice_bounds-measure-count : goal.slice_bounds-measure-count
slice_bounds-measure-count c =
    omega (arith, (checked-whole _ _ c.in_ok-m.ensures).long)

pub slice_bounds-measure-start : goal.slice_bounds-measure-start
slice_bounds-measure-start c =
    omega (arith, (checked-whole _ _ c.in_ok-m.ensures).long)

pub measure-size-requires : goal.measure-size-requires
measure-size-requires c =
    let behind = rest_is 8 c.args.file.now in
    checked-packed _ behind c.in_ok-m.ensures

pub returns-then-program-size : goal.returns-then-program-size
returns-then-program-size c =
    let behind = rest_is 8 c.args.file.now in
    ends-refused _ _ _ _ _ (compile_short _ behind c.in_ok-m.ensures _ c.measure-size.ensures.measured c.if-program-size.true)

pub write-requires : goal.write-requires
write-requires c =
    let behind = rest_is 8 c.args.file.now in
    let rows = c.measure-size.ensures.rows in
    rw (rows.0, rows.2) (checked-packed _ behind c.in_ok-m.ensures, c.measure-size.ensures.measured, c.if-program-size.false, rows.1)

pub returns-in_err-m : goal.returns-in_err-m
returns-in_err-m c =
    rw (passed_on c.from_residual.result _ c.from_residual.ensures.1) (ends-refused _ _ _ _ _ (compile_refused _ _ _ c.in_err-m.ensures))

pub returns : goal.returns
returns c =
    let behind = rest_is 8 c.args.file.now in
    let rows = c.measure-size.ensures.rows in
    ends-given _ _ _ _ _ _ _ (compile_gives _ behind c.in_ok-m.ensures _ c.measure-size.ensures.measured c.if-program-size.false)
    c.measure-size.ensures.measured.all
    (rw (rows.0, rows.2) at c.write.ensures)
