-- `files::write` meets its contract: each return is a way through the checks; the last lays rows behind the header. Assumes nothing.
use mathlib.Core.Path.{◌≡◌, ap, sym, ◌∙◌}
use mathlib.Core.Bool.{false, not}
use Rattle.fields.specs.Refusal.{passed_on}
use Rattle.laws.specs.Outcome.{ends-refused}
use Rattle.files.specs.Matrix.{sizes_outside}
use Rattle.files.specs.Writing.{write_sizes, write_short, write_bit, write_sum, head_room, Entered, write_unheaded, write_headed}
use Rattle.files.proofs.writing.write.Goals as goal
use Rattle.files.proofs.writing.write.Goals.{Else-not-fit, Else-outside}

-- what holds past the sizes, and past all checks of the entries
inside : (c : Else-outside) → sizes_outside c.args.sizes.rows c.args.sizes.columns ≡ false
inside c = sym c.outside.ensures ∙ c.if-outside.false

entered : (c : Else-not-fit) → let s = c.args.sizes in Entered s.rows s.columns c.args.entries.now
entered c =
    record {
      sized = sym c.outside.ensures ∙ c.if-outside.false;
      there = c.if-entries-rows.false;
      bits = sym c.any_above_one.ensures ∙ c.if-any_above_one.false;
      sum = ap not (rw c.fit.ensures at c.if-not-fit.false);
    }

pub returns-then-outside : goal.returns-then-outside
returns-then-outside c = ends-refused _ _ _ _ _ (write_sizes _ _ _ _ (sym c.outside.ensures ∙ c.if-outside.true))

pub returns-then-entries-rows : goal.returns-then-entries-rows
returns-then-entries-rows c =
    ends-refused _ _ _ _ _
    (write_short _ _ _ _ (inside (goal.at.returns-then-entries-rows c).Else-outside) c.if-entries-rows.true)

pub returns-then-any_above_one : goal.returns-then-any_above_one
returns-then-any_above_one c =
    ends-refused _ _ _ _ _
    (write_bit _ _ _ _ (inside (goal.at.returns-then-any_above_one c).Else-outside) c.if-entries-rows.false
    (sym c.any_above_one.ensures ∙ c.if-any_above_one.true))

pub returns-then-not-fit : goal.returns-then-not-fit
returns-then-not-fit c =
    ends-refused _ _ _ _ _
    (write_sum _ _ _ _ (inside (goal.at.returns-then-not-fit c).Else-outside) c.if-entries-rows.false
    (sym c.any_above_one.ensures ∙ c.if-any_above_one.false)
    (ap not (rw c.fit.ensures at c.if-not-fit.true)))

pub pack_rows-requires : goal.pack_rows-requires
pack_rows-requires c =
    let ok = entered (goal.at.pack_rows-requires c).Else-not-fit in
    let file = c.args.file.now in
    let head = head_room _ _ _ file _ c.in_ok-length.ensures in
    (head.0.few_rows, head.0.few_columns, ok.there, head.1, ok.bits)

pub returns-in_err-length : goal.returns-in_err-length
returns-in_err-length c =
    rw (passed_on c.from_residual.result _ c.from_residual.ensures.1)
    (write_unheaded (entered (goal.at.returns-in_err-length c).Else-not-fit) c.args.file.now _ _ c.in_err-length.ensures)

pub returns : goal.returns
returns c =
    write_headed (entered (goal.at.returns c).Else-not-fit) c.args.file.now _ _ _
    c.in_ok-length.ensures
    c.pack_rows.ensures
