-- `lanes::put_words` meets its contract: the words of q blocks are laid. Assumes nothing.
use mathlib.Core.Path.{◌≡◌}
use Prim.Native.Nat.{◌-◌, ◌*◌, min, ◌≤◌}
use Rattle.laws.specs.Lists.{upto}
use Rattle.laws.specs.Lay.{Laid}
use Rattle.fields.specs.Fields.{width}
use Rattle.lanes.specs.Slicing.{word_of}
use Rattle.lanes.proofs.slicing.put_words.Given as goal

abbrev pub invariant-loop-q : goal.invariant-loop-q
invariant-loop-q l =
    (l.q ≤ l.q-end) × (l.q-end ≡ width (width l.n)) ×
    Laid 0 (upto (min (64 * l.q) l.n) (word_of l.strings (width l.n))) l.initial.words l.words

abbrev pub decreases-loop-q : goal.decreases-loop-q
decreases-loop-q l = l.q-end - l.q
