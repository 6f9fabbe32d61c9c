-- `files::unpack_row` meets its contract: c entries are laid. Assumes nothing.
use Rattle.laws.specs.Lists.{upto}
use Rattle.laws.specs.Lay.{Laid}
use Rattle.fields.specs.Fields.{bit_of}
use Rattle.files.proofs.reading.unpack_row.Given as goal

abbrev pub invariant-loop-c : goal.invariant-loop-c
invariant-loop-c l = Laid 0 (upto l.c (bit_of l.bytes l.at)) l.initial.row l.row
