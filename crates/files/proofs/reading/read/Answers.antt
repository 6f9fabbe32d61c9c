-- `files::read` meets its contract: the file's checks, then the buffer's, then the entries are laid. Assumes nothing.
use native.Mathlib.Omega.{arith}
use mathlib.Core.Path.{refl, ◌∙◌}
use native.Mathlib.Nat.{mul-le-mul}
use Rattle.fields.specs.Refusal.{passed_on}
use Rattle.laws.specs.Lists.{rest_is}
use Rattle.laws.specs.Lay.{lay-is}
use Rattle.laws.specs.Outcome.{ends-refused, ends-given}
use Rattle.files.specs.Files.{unpacked}
use Rattle.files.specs.Checks.{checked-whole, read_refused, read_short, read_gives}
use Rattle.files.proofs.reading.read.Goals as goal

pub overflow_mul-size : goal.overflow_mul-size
overflow_mul-size c =
    let w = checked-whole _ _ c.in_ok-size.ensures in
    record { fits = omega (arith, mul-le-mul w.few_rows w.few_columns) }

pub returns-then-entries-size : goal.returns-then-entries-size
returns-then-entries-size c =
    ends-refused _ _ _ _ _ (read_short _ _ _ c.in_ok-size.ensures c.if-entries-size.true)

pub slice_bounds-unpack-count : goal.slice_bounds-unpack-count
slice_bounds-unpack-count c =
    let w = checked-whole _ _ c.in_ok-size.ensures in
    omega (arith, w.long)

pub returns-in_err-size : goal.returns-in_err-size
returns-in_err-size c =
    rw (passed_on c.from_residual.result _ c.from_residual.ensures.1) (ends-refused _ _ _ _ _ (read_refused _ _ _ c.in_err-size.ensures))

pub returns : goal.returns
unfolding unpacked
returns c =
    ends-given _ _ _ _ _ _ _
    (read_gives _ _ _ c.in_ok-size.ensures c.if-entries-size.false) refl
    (rw rest_is at c.unpack.ensures ∙ lay-is _ _)

pub slice_bounds-unpack-start : goal.slice_bounds-unpack-start
slice_bounds-unpack-start c =
    let w = checked-whole _ _ c.in_ok-size.ensures in
    omega (arith, w.long)
