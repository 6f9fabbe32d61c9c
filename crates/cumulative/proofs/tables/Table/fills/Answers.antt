-- `cumulative::Table::fills` meets its contract: neighbours are tested, of which the later is not below the earlier. Assumes nothing.
use borrow.Author.Tests.{tests}
use Rattle.std.proofs.Common.{rules}
use Rattle.std.proofs.iter.runs.Made.{chains}
use Rattle.cumulative.specs.Tables.{fills, difference}
use Rattle.cumulative.specs.Taken.{any_is, rising}
use Rattle.cumulative.proofs.tables.Table.fills.Goals as goal

pub returns : goal.returns
unfolding fills difference
returns c =
    let up = (rising _ c.requires).next in
    any_is _ _ _ (λ e. search (rules, chains, tests, up)) (λ e k l. search (rules, chains, tests, up))
