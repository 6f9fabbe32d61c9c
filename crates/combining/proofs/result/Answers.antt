-- `combining::result` meets its contract: the sum of the values, or the miss where one of them does not hit. Assumes nothing.
use borrow.Author.Rules.{rules}
use Rattle.combining.specs.Arithmetic.{pair_small, result_read}
use Rattle.combining.proofs.result.Goals as goal

pub plus_times-sum-requires : goal.plus_times-sum-requires
plus_times-sum-requires c =
    let low = c.pair in
    let fits = c.ranges in
    let pre = c.requires in (
      search rules,
      pair_small _ _ _ _ pre.0 fits.x1 fits.x2 pre.2 pre.3 (record { sfits = low.type_inv }) low.ensures,
      pair_small _ _ _ _ pre.0 fits.x3 fits.x4 pre.4 pre.5 (record { sfits = c.pair-2.type_inv }) c.pair-2.ensures,
    )

pub returns : goal.returns
returns c =
    let fits = c.ranges in
    result_read _ _ _ _ _ _ _ _ _ _ _ _ _ _ fits.x1 fits.x2 fits.x3 fits.x4 c.hits.ensures c.hits-2.ensures
    c.hits-3.ensures c.hits-4.ensures (record { sfits = c.pair.type_inv }) (record { sfits = c.pair-2.type_inv })
    (record { sfits = c.plus_times-sum.type_inv }) (record { sfits = c.or_missed.type_inv }) c.pair.ensures c.pair-2.ensures
    c.plus_times-sum.ensures c.or_missed.ensures
