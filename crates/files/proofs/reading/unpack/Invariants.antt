-- `files::unpack` meets its contract: v rows are laid. Assumes nothing.
use mathlib.Core.Path.{◌≡◌}
use Prim.Native.Nat.{◌*◌}
use Rattle.laws.specs.Lists.{blocks, upto}
use Rattle.laws.specs.Lay.{Laid}
use Rattle.fields.specs.Fields.{bit_of, width}
use Rattle.files.proofs.reading.unpack.Given as goal

abbrev pub invariant-loop-v : goal.invariant-loop-v
invariant-loop-v l =
    let n = l.columns in
    (l.w ≡ width n) × Laid 0 (blocks l.v (λ v'. upto n (bit_of l.bytes (v' * width n)))) l.initial.entries l.entries
