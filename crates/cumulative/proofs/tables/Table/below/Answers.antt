-- `cumulative::Table::below` meets its contract: each number adds 0 or 1. Assumes nothing.
use borrow.Author.Tests.{tests}
use mathlib.Core.Path.{◌≡◌, ◌∙◌}
use Prim.Native.Nat.{◌-◌}
use lib.ListN.{drop, length, take}
use Rattle.std.proofs.Common.{rules, ℕ, ltb}
use Rattle.std.specs.Prelude.{sum_by}
use Rattle.std.proofs.lemmas.Iterator.{YieldsList-from_slice, YieldsList-from_map}
use Rattle.std.proofs.lemmas.Iterator.Consumers.{fits_by_from_yields_list}
use Rattle.laws.specs.Lists.{rest_is}
use Rattle.walk.specs.Strings.{one_if}
use Rattle.cumulative.specs.Lookup.{below_fits, below_items}
use Rattle.cumulative.proofs.tables.Table.below.Goals as goal

pub sum-requires-clause-fits : goal.sum-requires-clause-fits
sum-requires-clause-fits c =
    let f : ℕ → ℕ = λ x. one_if (ltb x c.args.r) in
    let T = c.args.self.numbers.now in
    let later = take (length T - 1) (drop 1 T) in
    fits_by_from_yields_list f later c.map.result _
    (YieldsList-from_map _ f (YieldsList-from_slice later (cc)) c.map.ensures.closure (λ x r q k. search (rules, tests)))
    (below_fits _ _ (rw c.iter.ensures.rest at c.iter.ensures.bound))

pub returns : goal.returns
returns c =
    let T = c.args.self.numbers.now in
    let summed : c.sum.result ≡ sum_by (λ x. one_if (ltb x c.args.r)) (take (length T - 1) (drop 1 T)) = search rules in
    summed ∙ rw rest_is (below_items T c.args.r)
