-- `files::pack_rows` meets its contract: v rows are laid. Assumes nothing.
use mathlib.Core.Path.{◌≡◌}
use Prim.Native.Nat.{◌+◌, ◌*◌}
use Rattle.laws.specs.Lists.{blocks}
use Rattle.laws.specs.Lay.{Laid}
use lib.ListN.{get_or}
use Rattle.fields.specs.Fields.{packed, width}
use Rattle.files.proofs.writing.pack_rows.Given as goal

abbrev pub invariant-loop-v : goal.invariant-loop-v
invariant-loop-v l =
    let n = l.columns in
    (l.w ≡ width n) × Laid 8 (blocks l.v (λ v'. packed n (λ i. get_or l.entries (v' * n + i) 0))) l.initial.file l.file
