-- `walk_cases::rows::print_total` meets its contract: the sums of the bytes passed leave a small carry. Assumes nothing.
use Rattle.std.proofs.Common.{◌≤◌}
use Rattle.walk_cases.proofs.rows.print_total.Given as goal

abbrev pub invariant-loop-j : goal.invariant-loop-j
invariant-loop-j g l = l.carry ≤ 65536
