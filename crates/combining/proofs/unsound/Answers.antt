-- `combining::unsound` meets its contract: whether any of the entries before this one is unsound. Assumes nothing.
use borrow.Author.Rules.{rules}
use mathlib.Core.Path.{sym}
use Rattle.laws.specs.Sums.{any_none}
use Rattle.combining.specs.Arithmetic.{front-tried, front-all}
use Rattle.combining.proofs.unsound.Goals as goal

pub loop-entry-init : goal.loop-entry-init
loop-entry-init c = sym (any_none _)

pub loop-entry-preserved : goal.loop-entry-preserved
loop-entry-preserved c =
    let at = c.loop-entry in
    let more = front-tried c.args.x.now at.entry-index at.any c.sound.result c.loop-entry-test.true in
    more (search rules) c.sound.ensures at.invariant

pub returns : goal.returns
returns c =
    let at = c.loop-entry in
    front-all _ _ _ c.requires at.auto.entry-index-end c.loop-entry-test.false at.invariant
