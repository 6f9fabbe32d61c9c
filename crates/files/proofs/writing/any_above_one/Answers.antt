-- `files::any_above_one` meets its contract: the entries' tests are those of a list. Assumes nothing.
use mathlib.Core.Path.{◌∙◌}
use Rattle.std.proofs.Common.{rules, tests}
use Rattle.std.specs.Prelude.{ltb, take}
use Rattle.std.proofs.lemmas.Iterator.{YieldsList-from_slice}
use Rattle.std.proofs.lemmas.Iterator.Search.{any_from_yields_List}
use Rattle.laws.specs.Sums.{any_taken}
use Rattle.files.proofs.writing.any_above_one.Goals as goal

pub returns : goal.returns
returns c =
    any_from_yields_List (ltb 1) _ _ _ c.any.ensures.ran
    (YieldsList-from_slice (take c.args.n c.args.entries.now) cc) (λ x b q k. search (rules, tests)) ∙
    any_taken 0 (ltb 1) _ _ c.requires
