-- `spent::sum_used` meets its contract: what the walks on 64 strings have used is added up. Assumes nothing.
use borrow.Author.Tests.{tests}
use Rattle.std.proofs.Common.{rules, refl, ◌∙◌, ℕ, ◌*◌}
use Rattle.std.specs.List.{range_with_len}
use Rattle.std.proofs.lemmas.Iterator.{YieldsList-from_range, YieldsList-from_map}
use Rattle.std.proofs.lemmas.Iterator.Consumers.{sum_by_from_yields_List, fits_by_from_yields_list}
use Rattle.walk.specs.Walk.{used_at}
use Rattle.spent.specs.Ways.{walks_add_up, walks_fit}
use Rattle.spent.proofs.sum_used.Goals as goal

pub sum-requires-clause-fits : goal.sum-requires-clause-fits
sum-requires-clause-fits c =
    let f : ℕ → ℕ = λ j. used_at c.args.file.now c.args.strings.now (j * c.width-w.result) in
    fits_by_from_yields_list f (range_with_len 0 64) c.map.result _
    (YieldsList-from_map _ f (YieldsList-from_range 0 64 64 (cc) refl) c.map.ensures.closure (λ x r q k. search (rules, tests)))
    (walks_fit _ _ _ _ (rw c.field.ensures.value at c.width-w.ensures) c.field.ensures.value c.field.ensures.upper_bound)

pub returns : goal.returns
returns c =
    let f : ℕ → ℕ = λ j. used_at c.args.file.now c.args.strings.now (j * c.width-w.result) in
    sum_by_from_yields_List f (range_with_len 0 64) c.map.result _ c.sum.ensures.ran
    (YieldsList-from_map _ f (YieldsList-from_range 0 64 64 (cc) refl) c.map.ensures.closure (λ x r q k. search (rules, tests))) ∙
    walks_add_up _ _ _ (rw c.field.ensures.value at c.width-w.ensures)
