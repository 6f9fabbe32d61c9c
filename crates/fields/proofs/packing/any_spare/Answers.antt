-- `fields::any_spare` meets its contract: the strings' tests are those of a range. Assumes nothing.
use mathlib.Core.Path.{refl, ◌∙◌}
use native.Mathlib.Omega.{arith}
use Rattle.std.proofs.Common.{rules, tests}
use Prim.Native.Nat.{◌*◌}
use Rattle.std.proofs.lemmas.Iterator.{YieldsList-from_range}
use Rattle.std.proofs.lemmas.Iterator.Search.{any_from_yields_List}
use Rattle.laws.specs.Sums.{any_range}
use Rattle.fields.specs.Fields.{spare, width}
use Rattle.fields.proofs.packing.any_spare.Goals as goal

pub returns : goal.returns
returns c =
    any_from_yields_List (λ v. spare c.args.bytes.now c.args.n (v * width c.args.n)) _ _ _ c.any.ensures.ran
    (YieldsList-from_range 0 c.args.count c.args.count refl (omega arith)) (λ x b q k. search (rules, tests)) ∙
    any_range _ _
