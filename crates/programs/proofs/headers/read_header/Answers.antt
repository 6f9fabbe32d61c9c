-- `programs::read_header` meets its contract: each way through the tests is one of the definition. Assumes nothing.
use mathlib.Core.Path.{◌≡◌, refl, sym, ◌∙◌}
use mathlib.Core.Bool.{true}
use Prim.Native.Nat.{◌+◌, ◌*◌}
use borrow.Author.Tests.{eq-eqb, ne_eqb}
use lib.Dec.{eqb}
use Rattle.fields.specs.Fields.{field_of}
use Rattle.programs.specs.Header.{header_length, header_of, limits_under, limits_of, numbers_of}
use Rattle.std.proofs.Common.{arith}
use Rattle.programs.specs.Reading.{header_foreign, header-numbers}
use Rattle.programs.specs.declared.description.Program.{Program}
use Rattle.programs.proofs.headers.read_header.Goals as goal
use Rattle.programs.proofs.headers.read_header.Goals.{After-field-2, After-within}

pub returns-then-field-ne-KIND : goal.returns-then-field-ne-KIND
returns-then-field-ne-KIND c = header_foreign _ (omega arith) (λ e. c.if-field-ne-KIND.true (c.field.ensures.value ∙ e))

-- past the first three tests the length field is tried, then the numbers that the fields say
limited : (c : After-field-2) → let file = c.args.file.now in
    (p : Program) → p ≡ numbers_of file → header_of file ≡ limits_of file p
limited c p e =
    header-numbers _ c.if-file-lt-HEADER.false (sym c.field.ensures.value ∙ c.if-field-ne-KIND.false) p e

pub returns-then-field-ne-HEADER : goal.returns-then-field-ne-HEADER
unfolding limits_under
returns-then-field-ne-HEADER c =
    sym (limited (goal.at.returns-then-field-ne-HEADER c).After-field-2 _ refl ∙ rw
    (← c.field-2.ensures.value, ne_eqb _ _ c.if-field-ne-HEADER.true))

numbered : (c : After-within) → let file = c.args.file.now in
    header_of file ≡ limits_of file (record {
      registers = c.field-3.result;
      inputs = c.field-4.result;
      outputs = c.field-5.result;
      rows = c.field-6.result;
      count = c.field-7.result + 65536 * c.field-8.result;
    })
unfolding numbers_of
numbered c =
    header-numbers _ c.if-file-lt-HEADER.false (sym c.field.ensures.value ∙ c.if-field-ne-KIND.false) _
    (rw (
      c.field-3.ensures.value,
      c.field-4.ensures.value,
      c.field-5.ensures.value,
      c.field-6.ensures.value,
      c.field-7.ensures.value,
      c.field-8.ensures.value,
    ))

-- past the length field, where the numbers are tried
tried : (c : After-within) → eqb (field_of c.args.file.now 0) header_length ≡ true
tried c = eq-eqb _ _ (sym c.field-2.ensures.value ∙ c.if-field-ne-HEADER.false)

pub returns-then-not-within : goal.returns-then-not-within
unfolding limits_under
returns-then-not-within c =
    sym (numbered (goal.at.returns-then-not-within c).After-within ∙ rw
    (tried (goal.at.returns-then-not-within c).After-within, sym c.within.ensures ∙ c.if-not-within.true))

pub returns : goal.returns
unfolding limits_under
returns c =
    sym (numbered (goal.at.returns c).After-within ∙ rw (
      tried (goal.at.returns c).After-within,
      sym c.within.ensures ∙
          c.if-not-within.false,
    ))
