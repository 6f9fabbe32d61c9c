-- `machine::State::fresh` meets its contract: the arrays are the repeats that the definition says. Assumes nothing.
use borrow.Author.Rules.{rules}
use Rattle.machine.specs.Fresh.{zeroed}
use Rattle.machine.proofs.state.State.fresh.Goals as goal

pub returns : goal.returns
unfolding zeroed
returns c = search rules
