-- `lanes::put_block` meets its contract: i words of the block are laid. Assumes nothing.
use borrow.Author.Rules.{rules}
use native.Mathlib.Omega.{arith}
use mathlib.Core.Path.{refl, ap, ◌∙◌}
use Rattle.laws.specs.Lay.{upto-none, laid_store}
use Rattle.lanes.specs.Transposing.{transposed, table-front}
use Rattle.lanes.specs.Blocks.{rows-table, block_bytes, block_word}
use Rattle.lanes.proofs.slicing.put_block.Goals as goal

pub transpose-requires : goal.transpose-requires
transpose-requires c =
    let table = rows-table _ _ _ _ (omega (arith, c.lesser-m.ensures)) in
    rw c.fill.ensures (table, table-front _ table)

pub loop-i-init : goal.loop-i-init
loop-i-init c =
    let b = block_bytes c.args.n c.args.q c.requires.2 _ (rw c.width-w.ensures at c.lesser-m.ensures) in (
      search rules,
      c.lesser-i-end.ensures,
      omega (arith, b.2),
      b.0,
      c.transpose.ensures ∙ ap transposed (rw c.width-w.ensures at c.fill.ensures),
      upto-none _ _ _,
    )

pub loop-i-preserved : goal.loop-i-preserved
loop-i-preserved c =
    let v = c.loop-i.invariant in (
      search rules,
      v.1,
      v.2,
      v.3,
      v.4,
      laid_store _ _ _ _ _ _ _ refl (omega arith) (block_word _ _ _ _ _ _ v.3 (omega arith) v.4) v.5,
    )
