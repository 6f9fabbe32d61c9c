-- `lanes::transpose` meets its contract: each distance and mask make a round, by computing, and six rounds transpose. Assumes nothing.
use mathlib.Core.Path.{refl}
use Rattle.laws.specs.Sums.{any}
use Rattle.lanes.specs.Transposing.{is_round, round_is, first_front, six_transpose}
use Rattle.lanes.proofs.transposing.transpose.Goals as goal

pub exchange-requires : goal.exchange-requires
unfolding is_round any
exchange-requires c =
    let pre = c.requires in
    (round_is _ _ refl, (first_front _ _ _ _ (round_is _ _ refl) c.lesser.ensures pre.0 pre.1 c.exchange_block.ensures).table)

pub exchange-requires-2 : goal.exchange-requires-2
unfolding is_round any
exchange-requires-2 c = (round_is _ _ refl, c.exchange.ensures.table)

pub exchange-requires-3 : goal.exchange-requires-3
unfolding is_round any
exchange-requires-3 c = (round_is _ _ refl, c.exchange-2.ensures.table)

pub exchange-requires-4 : goal.exchange-requires-4
unfolding is_round any
exchange-requires-4 c = (round_is _ _ refl, c.exchange-3.ensures.table)

pub exchange-requires-5 : goal.exchange-requires-5
unfolding is_round any
exchange-requires-5 c = (round_is _ _ refl, c.exchange-4.ensures.table)

pub returns : goal.returns
unfolding is_round any
returns c =
    let pre = c.requires in
    six_transpose
    (first_front _ _ _ _ (round_is _ _ refl) c.lesser.ensures pre.0 pre.1 c.exchange_block.ensures)
    c.exchange.ensures c.exchange-2.ensures c.exchange-3.ensures c.exchange-4.ensures
    c.exchange-5.ensures
