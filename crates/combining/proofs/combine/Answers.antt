-- `combining::combine` meets its contract: the checks in their order, then the results are laid. Assumes nothing.
use mathlib.Core.Path.{sym, ◌∙◌}
use Rattle.combining.specs.Combining.{fit, long, samples, ends-unfit, ends-short, ends-unsound, ends-all}
use Rattle.combining.proofs.combine.Goals as goal

pub returns-then-unfit : goal.returns-then-unfit
returns-then-unfit c = ends-unfit _ _ _ _ _ _ _ (sym c.unfit.ensures ∙ c.if-unfit.true)

pub returns-then-short : goal.returns-then-short
returns-then-short c = ends-short _ _ _ _ _ _ _ (sym c.unfit.ensures ∙ c.if-unfit.false) _ c.short.ensures c.if-short.true

pub unsound-requires : goal.unsound-requires
unsound-requires c =
    let there = long _ _ _ _ _ _ c.short.ensures c.if-short.false in
    (there.first, there.second, there.third, there.fourth)

pub returns-then-unsound : goal.returns-then-unsound
returns-then-unsound c =
    ends-unsound _ _ _ _ _ _ _ (sym c.unfit.ensures ∙ c.if-unfit.false) _ c.short.ensures c.if-short.false
    (sym c.unsound.ensures ∙ c.if-unsound.true)

pub fill-requires : goal.fill-requires
fill-requires c =
    let few = fit _ _ (sym c.unfit.ensures ∙ c.if-unfit.false) in
    let there = long _ _ _ _ _ _ c.short.ensures c.if-short.false in
    record {
      limits = (few.0, few.1, there.room);
      samples = samples _ _ _ _ _ there (sym c.unsound.ensures ∙ c.if-unsound.false);
    }

pub returns : goal.returns
returns c =
    ends-all _ _ _ _ _ _ _ (sym c.unfit.ensures ∙ c.if-unfit.false) _ c.short.ensures c.if-short.false
    (sym c.unsound.ensures ∙ c.if-unsound.false) _ c.fill.ensures
