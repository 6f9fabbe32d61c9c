-- `lanes::put_block` meets its contract: i words of the block are laid. Assumes nothing.
use mathlib.Core.Path.{◌≡◌}
use Prim.Native.Nat.{◌+◌, ◌-◌, ◌*◌, min, ◌≤◌}
use Rattle.laws.specs.Lists.{upto}
use Rattle.laws.specs.Lay.{Laid}
use Rattle.fields.specs.Fields.{width}
use Rattle.lanes.specs.Transposing.{side, transposed}
use Rattle.lanes.specs.Slicing.{word_of}
use Rattle.lanes.specs.Blocks.{row_of}
use Rattle.lanes.proofs.slicing.put_block.Given as goal

abbrev pub invariant-loop-i : goal.invariant-loop-i
invariant-loop-i l =
    (l.i ≤ l.i-end) × (l.i-end ≡ min side (l.n - 64 * l.q)) × (l.i-end ≤ 8 * l.m) × (l.m ≤ 8) ×
    (l.rows ≡ transposed (upto side (row_of l.strings (width l.n) l.q l.m))) ×
    Laid (64 * l.q) (upto l.i (λ i'. word_of l.strings (width l.n) (64 * l.q + i'))) l.initial.words l.words

abbrev pub decreases-loop-i : goal.decreases-loop-i
decreases-loop-i l = l.i-end - l.i
