-- `wanted::Rows::ones` meets its contract: the bits of the rows are added up. Assumes nothing.
use borrow.Author.Tests.{tests}
use native.Mathlib.Omega.{arith}
use Prim.Native.Nat.{ℕ, ◌-◌}
use Rattle.std.proofs.Common.{rules, refl}
use Rattle.std.specs.List.{range_with_len}
use Rattle.std.proofs.lemmas.Iterator.{YieldsList-from_range, YieldsList-from_map}
use Rattle.std.proofs.lemmas.Iterator.Consumers.{sum_by_from_yields_List, fits_by_from_yields_list}
use Rattle.walk.specs.Walk.{file_rows}
use Rattle.walk.specs.Ways.{file_bit}
use Rattle.wanted.specs.Back.{ones-few, summed}
use Rattle.wanted.proofs.Rows.ones.Goals as goal

pub sum-requires-clause-fits : goal.sum-requires-clause-fits
sum-requires-clause-fits c =
    let s = c.args in
    let f : ℕ → ℕ = λ v. file_rows s.self.file.now s.self.columns v s.c in
    fits_by_from_yields_list f (range_with_len s.from (s.to - s.from)) c.map.result _
    (YieldsList-from_map _ f (YieldsList-from_range s.from s.to (s.to - s.from) (cc) refl) c.map.ensures.closure
    (λ x r q k. search (rules, tests)))
    (omega (
      arith,
      ones-few (file_rows s.self.file.now s.self.columns) s.c s.from s.to (λ v. file_bit _ _ _ _) c.requires.0,
      c.requires.1,
      s.self.few_rows,
    ))

pub returns : goal.returns
returns c =
    let s = c.args in
    let f : ℕ → ℕ = λ v. file_rows s.self.file.now s.self.columns v s.c in
    summed _ _ _ _ (λ v. file_bit _ _ _ _) c.requires.0 _
    (sum_by_from_yields_List f (range_with_len s.from (s.to - s.from)) c.map.result _ c.sum.ensures.ran
    (YieldsList-from_map _ f (YieldsList-from_range s.from s.to (s.to - s.from) (cc) refl) c.map.ensures.closure
    (λ x r q k. search (rules, tests))))
