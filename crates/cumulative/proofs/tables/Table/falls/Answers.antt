-- `cumulative::Table::falls` meets its contract: neighbours are tested. Assumes nothing.
use borrow.Author.Tests.{tests}
use Rattle.std.proofs.Common.{rules}
use Rattle.std.proofs.iter.runs.Made.{chains}
use Rattle.cumulative.specs.Tables.{falls}
use Rattle.cumulative.specs.Taken.{any_is}
use Rattle.cumulative.proofs.tables.Table.falls.Goals as goal

pub returns : goal.returns
unfolding falls
returns c = any_is _ _ _ (λ e. search (rules, chains, tests)) (λ e k l. search (rules, chains, tests))
