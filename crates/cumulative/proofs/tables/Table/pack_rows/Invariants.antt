-- `cumulative::Table::pack_rows` meets its contract: v rows are laid. Assumes nothing.
use mathlib.Core.Path.{◌≡◌}
use Rattle.laws.specs.Digits.{digit}
use Rattle.laws.specs.Lists.{blocks}
use Rattle.laws.specs.Lay.{Laid}
use Rattle.fields.specs.Fields.{packed, width}
use Rattle.cumulative.specs.Tables.{difference}
use Rattle.cumulative.proofs.tables.Table.pack_rows.Given as goal

abbrev pub invariant-loop-v : goal.invariant-loop-v
invariant-loop-v l =
    let n = l.self.columns in
    (l.w ≡ width n) × Laid 8 (blocks l.v (λ v'. packed n (digit n (difference l.self.numbers.now v')))) l.initial.file l.file
