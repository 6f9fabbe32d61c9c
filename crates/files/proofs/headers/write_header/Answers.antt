-- `files::write_header` meets its contract: the checks, then the four fields one after another. Assumes nothing.
use native.Mathlib.Omega.{arith}
use mathlib.Core.Path.{sym, ◌∙◌}
use Rattle.laws.specs.Outcome.{ends-refused, ends-given}
use Rattle.files.specs.Writing.{head_sizes, head_full, head_gives, header-laid}
use Rattle.files.proofs.headers.write_header.Goals as goal

pub returns-then-outside : goal.returns-then-outside
returns-then-outside c = ends-refused _ _ _ _ _ (head_sizes _ _ _ (sym c.outside.ensures ∙ c.if-outside.true))

pub returns-then-file-length : goal.returns-then-file-length
returns-then-file-length c =
    ends-refused _ _ _ _ _
    (head_full _ _ _ (sym c.outside.ensures ∙ c.if-outside.false)
    (rw c.file_length-length.ensures.0 at c.if-file-length.true))

pub returns : goal.returns
returns c =
    let length_is = c.file_length-length.ensures.0 in
    let fits = rw length_is at c.if-file-length.false in
    ends-given _ _ _ _ _ _ _ (head_gives _ _ _ (sym c.outside.ensures ∙ c.if-outside.false) fits) length_is
    (header-laid _ _ _ _ _ _ _ _ c.put_field.ensures c.put_field-2.ensures c.put_field-3.ensures
    c.put_field-4.ensures length_is (omega (arith, fits)))
