-- `lanes::put_words` meets its contract: the words of q blocks are laid. Assumes nothing.
use borrow.Author.Rules.{rules}
use native.Mathlib.Omega.{arith}
use Rattle.lanes.specs.Blocks.{words-none, words-next}
use Rattle.lanes.proofs.slicing.put_words.Goals as goal

pub loop-q-init : goal.loop-q-init
loop-q-init c = (search rules, omega arith, words-none _ _ _)

pub loop-q-preserved : goal.loop-q-preserved
loop-q-preserved c = (
  search rules,
  c.loop-q.invariant.1,
  words-next _ _ (omega arith) _ _ _ _ c.requires.1 c.put_block.ensures c.loop-q.invariant.2,
)
