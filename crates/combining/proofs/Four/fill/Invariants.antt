-- `combining::fill` meets its contract: before lane j, j results are laid. Assumes nothing.
use Rattle.laws.specs.Lists.{upto}
use Rattle.laws.specs.Lay.{Laid}
use Rattle.combining.specs.Combination.{result_at}
use Rattle.combining.proofs.Four.fill.Given as goal

abbrev pub invariant-loop-lane : goal.invariant-loop-lane
invariant-loop-lane l =
    let four = l.self in
    Laid 0 (upto l.lane (result_at four.first four.second four.x1.now four.x2.now four.x3.now four.x4.now)) l.initial.results l.results
