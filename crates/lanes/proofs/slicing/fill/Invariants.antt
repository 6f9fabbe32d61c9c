-- `lanes::fill` meets its contract: j rows are laid. Assumes nothing.
use Rattle.laws.specs.Lists.{upto}
use Rattle.laws.specs.Lay.{Laid}
use Rattle.lanes.specs.Blocks.{row_of}
use Rattle.lanes.proofs.slicing.fill.Given as goal

abbrev pub invariant-loop-j : goal.invariant-loop-j
invariant-loop-j l = Laid 0 (upto l.j (row_of l.strings l.w l.q l.m)) l.initial.rows l.rows
