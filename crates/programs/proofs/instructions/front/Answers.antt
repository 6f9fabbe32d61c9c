-- `programs::front` meets its contract: each way through the tests is one of the definition. Assumes nothing.
use borrow.Author.Tests.{lt-ltb, le-ltb, eq-eqb, ne_eqb}
use mathlib.Core.Path.{◌≡◌, sym, ◌∙◌}
use Rattle.laws.specs.Outcome.{◌>>=◌}
use Rattle.fields.specs.Refusal.{passed_on}
use Rattle.programs.specs.Instructions.{of_kind, sized_of, decode_of}
use Rattle.programs.specs.Reading.{decode_kind}
use Rattle.programs.proofs.instructions.front.Goals as goal
use Rattle.programs.proofs.instructions.front.Goals.{After-of_kind}

pub returns-then-bytes-lt4 : goal.returns-then-bytes-lt4
unfolding decode_of
returns-then-bytes-lt4 c = rw (lt-ltb _ _ c.if-bytes-lt4.true)

pub returns-then-bytes-length : goal.returns-then-bytes-length
unfolding decode_of
returns-then-bytes-length c = rw (le-ltb _ _ c.if-bytes-lt4.false, ← c.field-length.ensures.value, lt-ltb _ _ c.if-bytes-length.true)

-- the fields as they are read, and what they say
by_kind : (c : After-of_kind) →
    decode_of c.args.bytes.now ≡
    (of_kind c.field.result c.field-to.result c.field-a.result c.field-b.result >>= sized_of c.field-length.result)
by_kind c =
    decode_kind _ _ c.field-length.ensures.value c.if-bytes-lt4.false c.if-bytes-length.false _ _ _ _ c.field-to.ensures.value
    c.field-a.ensures.value c.field-b.ensures.value c.field.ensures.value

pub returns-in_err-i : goal.returns-in_err-i
returns-in_err-i c =
    passed_on c.from_residual.result _ c.from_residual.ensures.1 ∙
    sym (by_kind (goal.at.returns-in_err-i c).After-of_kind ∙ rw (← c.in_err-i.ensures))

pub returns-then-length : goal.returns-then-length
unfolding sized_of
returns-then-length c =
    sym (by_kind (goal.at.returns-then-length c).After-of_kind ∙
    rw (← c.in_ok-i.ensures, ← c.length.ensures, ne_eqb _ _ c.if-length.true))

pub returns : goal.returns
unfolding sized_of
returns c =
    sym (by_kind (goal.at.returns c).After-of_kind ∙ rw (← c.in_ok-i.ensures, ← c.length.ensures, eq-eqb _ _ c.if-length.false))
