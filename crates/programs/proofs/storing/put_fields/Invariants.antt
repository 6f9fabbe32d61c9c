-- `programs::put_fields` meets its contract: the fields passed are stored. Assumes nothing.
use Rattle.std.specs.Prelude.{take}
use Rattle.laws.specs.Lay.{Laid}
use Rattle.programs.specs.Records.{record_bytes}
use Rattle.programs.proofs.storing.put_fields.Given as goal

abbrev pub invariant-loop-i : goal.invariant-loop-i
invariant-loop-i l = Laid l.at (record_bytes (take l.i l.fields)) l.initial.out l.out
