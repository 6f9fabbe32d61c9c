-- `checker::body` meets its contract: what is left from here is answered as the whole is. Assumes nothing.
use Rattle.checker.specs.Checking.{Checking}
use Rattle.checker.proofs.checking.body.Given as goal

abbrev pub invariant-loop-left : goal.invariant-loop-left
invariant-loop-left l = Checking l.file l.p l.left.more l.left.at l.seen.written l.seen.set

abbrev pub decreases-loop-left : goal.decreases-loop-left
decreases-loop-left l = l.left.more
