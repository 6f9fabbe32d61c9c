-- `wanted::Rows::lay_string` meets its contract: from column i on the bits are the string's, and e goes on to the left. Assumes nothing.
use borrow.Author.Rules.{rules}
use Rattle.wanted.specs.Back.{first_fits, first-laid, next_fits, next-laid, laid-again, laid-all}
use Rattle.wanted.proofs.Rows.lay_string.Goals as goal

pub add_bit-requires : goal.add_bit-requires
add_bit-requires c = (search rules, search rules, first_fits _ _ _ _ _ _ c.requires.1 c.ones-e.ensures.0 _ _ c.clear.ensures)

pub loop-i-init : goal.loop-i-init
loop-i-init c =
    let first = first-laid _ _ _ _ _ _ c.requires.1 c.ones-e.ensures.0 _ _ c.clear.ensures _ c.add_bit.ensures in
    (search rules, search rules, laid-again _ _ _ _ _ _ _ _ first)

pub add_bit-requires-in-loop-i : goal.add_bit-requires-in-loop-i
add_bit-requires-in-loop-i c =
    (search rules, search rules, next_fits _ _ _ _ _ _ _ c.loop-i-test.true (search rules) c.ones.ensures.0 _ _ c.loop-i.invariant.2)

pub loop-i-preserved : goal.loop-i-preserved
loop-i-preserved c = (
  search rules,
  search rules,
  next-laid _ _ _ _ _ _ _ c.loop-i-test.true (search rules) c.ones.ensures.0 _ _ c.loop-i.invariant.2 _ c.add_bit-in-loop-i.ensures,
)

pub returns : goal.returns
returns c =
    let first = first-laid _ _ _ _ _ _ c.requires.1 c.ones-e.ensures.0 _ _ c.clear.ensures _ c.add_bit.ensures in
    laid-all _ _ _ _ _ _ _ _ _ _ _ c.loop-i-test.false first c.loop-i.invariant.2
