-- `weights::build` meets its contract: each return is a way through the checks; the last lays rows behind the header. Assumes nothing.
use mathlib.Core.Path.{◌≡◌, sym, ◌∙◌}
use mathlib.Core.Bool.{false}
use lib.ListN.{length}
use Rattle.fields.specs.Refusal.{passed_on}
use Rattle.laws.specs.Outcome.{ends-refused}
use Rattle.files.specs.Matrix.{sizes_outside}
use Rattle.files.specs.Writing.{head_room}
use Rattle.weights.specs.Weights.{sum}
use Rattle.weights.specs.Building.{build_sizes, build_zero, build_unheaded, build_headed}
use Rattle.weights.proofs.building.build.Goals as goal
use Rattle.weights.proofs.building.build.Goals.{Else-s-eq0, Else-outside}

-- what holds past the sizes, and past the sum
inside : (c : Else-outside) → sizes_outside (length c.args.weights.now) c.args.columns ≡ false
inside c = sym c.outside.ensures ∙ c.if-outside.false

some : (c : Else-s-eq0) → let s = c.args in sum s.usage s.weights.now ≡ 0 → ⊥
some c z = c.if-s-eq0.false (c.sum_of-s.ensures.0 ∙ z)

pub returns-then-outside : goal.returns-then-outside
returns-then-outside c = ends-refused _ _ _ _ _ (build_sizes _ _ _ _ (sym c.outside.ensures ∙ c.if-outside.true))

pub returns-then-s-eq0 : goal.returns-then-s-eq0
returns-then-s-eq0 c =
    ends-refused _ _ _ _ _ (build_zero _ _ _ _ (inside (goal.at.returns-then-s-eq0 c).Else-outside)
    (sym c.sum_of-s.ensures.0 ∙ c.if-s-eq0.true))

pub divide_rows-requires : goal.divide_rows-requires
divide_rows-requires c =
    let head = head_room _ _ _ c.args.file.now _
    c.in_ok-length.ensures in
    (c.sum_of-s.ensures.0, c.sum_of-s.ensures.1, head.1)

pub returns-in_err-length : goal.returns-in_err-length
returns-in_err-length c =
    rw (passed_on c.from_residual.result _ c.from_residual.ensures.1)
    (build_unheaded _ _ _ c.args.file.now (inside (goal.at.returns-in_err-length c).Else-outside)
    (some (goal.at.returns-in_err-length c).Else-s-eq0) _ _
    c.in_err-length.ensures)

pub returns : goal.returns
returns c =
    build_headed _ _ _ c.args.file.now (inside (goal.at.returns c).Else-outside)
    (some (goal.at.returns c).Else-s-eq0) _ _ _ _
    c.sum_of-s.ensures.0
    c.in_ok-length.ensures
    c.divide_rows.ensures
