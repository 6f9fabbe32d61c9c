-- `files::Rows::ones` meets its contract: the bits that are summed are the column's. Assumes nothing.
use native.Mathlib.Omega.{arith}
use mathlib.Core.Path.{◌∙◌}
use Prim.Native.Nat.{ℕ, ◌+◌, ◌-◌, ◌*◌, ◌/◌, ◌%◌, ◌^◌}
use lib.ListN.{get_or}
use Rattle.std.proofs.Common.{rules}
use Rattle.std.specs.Int.Bits.{bit_and}
use Rattle.std.specs.List.{range_with_len}
use Rattle.std.proofs.lemmas.Iterator.{YieldsList-from_range, YieldsList-from_map}
use Rattle.std.proofs.lemmas.Iterator.Consumers.{sum_by_from_yields_List, fits_by_from_yields_list}
use Rattle.laws.specs.Digits.{and_one}
use Rattle.laws.specs.Sums.{sum_range, sum-eq, sum-le}
use Rattle.files.specs.Matrix.{ones_in}
use Rattle.fields.specs.Fields.{packed_bit}
use Rattle.files.specs.Live.{column_read}
use Rattle.files.proofs.live.Rows.ones.Goals as goal

pub sum-requires-clause-fits : goal.sum-requires-clause-fits
sum-requires-clause-fits c =
    let s = c.args.self.now in
    let m : ℕ = s.sizes.rows in
    let bit = λ (v : ℕ). bit_and (get_or s.bytes.now (v * s.stride + c.args.c / s.per) 0 / 2 ^ (s.per - 1 - c.args.c % s.per)) 1 in
    fits_by_from_yields_list bit (range_with_len 0 m) c.map.result _
    (YieldsList-from_map _ bit (YieldsList-from_range 0 m m c.map.ensures.source (omega arith)) c.map.ensures.closure
    (λ x r q k. search rules))
    (rw (sum_range m bit) (omega (arith, sum-le m 1 bit (λ v h. rw and_one (omega arith)), s.there.few_rows)))

pub returns : goal.returns
unfolding ones_in
returns c =
    let s = c.args.self.now in
    let m : ℕ = s.sizes.rows in
    let bit = λ (v : ℕ). bit_and (get_or s.bytes.now (v * s.stride + c.args.c / s.per) 0 / 2 ^ (s.per - 1 - c.args.c % s.per)) 1 in
    sum_by_from_yields_List bit (range_with_len 0 m) c.map.result _ c.sum.ensures.ran
    (YieldsList-from_map _ bit (YieldsList-from_range 0 m m c.map.ensures.source (omega arith)) c.map.ensures.closure
    (λ x r q k. search rules)) ∙
    (sum_range m bit ∙ sum-eq m bit (λ v. packed_bit s.per s.bytes.now (v * s.stride) c.args.c) (λ v h. column_read _ _ _ _ v))
