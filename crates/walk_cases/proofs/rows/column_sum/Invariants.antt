-- `walk_cases::rows::column_sum` meets its contract: at most 255 for each row passed. Assumes nothing.
use Rattle.std.proofs.Common.{◌*◌, ◌≤◌}
use Rattle.walk_cases.proofs.rows.column_sum.Given as goal

abbrev pub invariant-loop-v : goal.invariant-loop-v
invariant-loop-v l = l.sum ≤ 255 * l.v
