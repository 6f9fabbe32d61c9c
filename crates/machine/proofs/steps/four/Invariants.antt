-- `machine::four` meets its contract: each gate passed says where the next begins. Assumes nothing.
use Rattle.machine.proofs.Turns.{Tried}
use Rattle.machine.proofs.steps.four.Given as goal

abbrev pub invariant-loop-k : goal.invariant-loop-k
invariant-loop-k g l = Tried g.C.Connective.which l.file l.at l.k
