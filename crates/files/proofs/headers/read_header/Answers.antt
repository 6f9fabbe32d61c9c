-- `files::read_header` meets its contract: each return is a way through the checks. Assumes nothing.
use mathlib.Core.Path.{sym, ◌∙◌}
use Rattle.std.proofs.Common.{arith}
use Rattle.files.specs.Checks.{Kinded, header-sizes, header_length, header-left, header-gives}
use Rattle.files.proofs.Order.{header-few, header_kind, header-short, header_cut}
use Rattle.files.proofs.headers.read_header.Goals as goal
use Rattle.files.proofs.headers.read_header.Goals.{After-outside}

pub returns-then-file-lt4 : goal.returns-then-file-lt4
returns-then-file-lt4 c = header-few _ (omega (arith, c.if-file-lt4.true))

pub returns-then-field-ne32 : goal.returns-then-field-ne32
returns-then-field-ne32 c = header_kind _ (omega (arith, c.if-file-lt4.false)) (λ e. c.if-field-ne32.true (c.field.ensures.value ∙ e))

pub returns-then-file-lt8 : goal.returns-then-file-lt8
returns-then-file-lt8 c =
    header-short _ (omega (arith, c.if-file-lt4.false)) (sym c.field.ensures.value ∙ c.if-field-ne32.false) c.if-file-lt8.true

pub returns-then-file-length : goal.returns-then-file-length
returns-then-file-length c =
    header_cut _ (omega (arith, c.if-file-lt4.false)) (sym c.field.ensures.value ∙ c.if-field-ne32.false) c.if-file-lt8.false
    (rw c.field-length.ensures.value at c.if-file-length.true)

kinded : (c : After-outside) →
    Kinded c.args.file.now c.field-length.result c.field-2.result c.field-3.result
kinded c = record {
  long = c.if-file-lt8.false;
  length_is = c.field-length.ensures.value;
  there = c.if-file-length.false;
  kind_is = sym c.field.ensures.value ∙ c.if-field-ne32.false;
  rows_is = c.field-2.ensures.value;
  columns_is = c.field-3.ensures.value;
}

pub returns-then-outside : goal.returns-then-outside
returns-then-outside c =
    header-sizes (kinded (goal.at.returns-then-outside c).After-outside)
    (sym c.outside.ensures ∙ c.if-outside.true)

pub returns-then-length-file_length : goal.returns-then-length-file_length
returns-then-length-file_length c =
    header_length (kinded (goal.at.returns-then-length-file_length c).After-outside)
    (sym c.outside.ensures ∙ c.if-outside.false)
    (λ e. c.if-length-file_length.true (e ∙ sym c.file_length.ensures.0))

pub returns-then-file-length-2 : goal.returns-then-file-length-2
returns-then-file-length-2 c =
    header-left (kinded (goal.at.returns-then-file-length-2 c).After-outside) (sym c.outside.ensures ∙ c.if-outside.false)
    (c.if-length-file_length.false ∙ c.file_length.ensures.0) c.if-file-length-2.true

pub returns : goal.returns
returns c =
    header-gives (kinded (goal.at.returns c).After-outside) (sym c.outside.ensures ∙ c.if-outside.false)
    (c.if-length-file_length.false ∙ c.file_length.ensures.0) c.if-file-length-2.false
