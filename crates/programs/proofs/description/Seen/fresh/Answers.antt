-- `programs::Seen::fresh` meets its contract: the arrays are the repeats that the definitions say. Assumes nothing.
use borrow.Author.Rules.{rules}
use Rattle.programs.specs.Limits.{unwritten, unset}
use Rattle.programs.proofs.description.Seen.fresh.Goals as goal

pub returns : goal.returns
unfolding unwritten unset
returns c = search rules
