-- How many numbers from 1 to 2^n lookup gives each sample for: the difference of neighbours. Assumes nothing.
use Prim.Native.Nat.{ℕ, ◌+◌, ◌-◌, ◌^◌, ◌≤◌, ◌<◌}
use Rattle.std.specs.Prelude.{◌≡◌, Bool, ◌&&◌, List, ltb}
use Rattle.std.proofs.Math.Path.{refl}
use Rattle.std.proofs.Common.{◌∙◌, arith, le-leb}
use Rattle.std.proofs.Math.Bool.{true, false}
use Rattle.std.proofs.Math.Dec.{leb}
use Rattle.laws.specs.Sums.{sum-eq}
use Rattle.laws.specs.Lists.{Each, upto, each-upto}
use Rattle.walk.specs.Strings.{one_if, count, over-upto}
use Rattle.cumulative.specs.Tables.{entry, rows_of, last_of, difference, holds}
use Rattle.cumulative.specs.Taken.{Cumulative, later}
use Rattle.cumulative.specs.Lookup.{ones-between}

-- the numbers 1 to N
unfoldable pub numbers_to : ℕ → List ℕ
numbers_to N = upto N (λ i. i + 1)

pub numbers-within : (N : ℕ) → Each (λ r. (1 ≤ r) × (r ≤ N)) (numbers_to N)
unfolding numbers_to
numbers-within N = each-upto (λ r. (1 ≤ r) × (r ≤ N)) (λ i. i + 1) N (λ i l. (omega arith, omega arith))

-- ---- in a table that is taken
module _ (T : List ℕ) (n : ℕ) (ok : Cumulative T n) where
  -- row s holds as many numbers as its difference says
  pub holds-count : (s : ℕ) → s < rows_of T → count (λ r. holds T r s) (numbers_to (2 ^ n)) ≡ difference T s
  unfolding count numbers_to difference
  holds-count s h =
      let b = later T ok.rises (s + 1) (rows_of T) (omega arith) (omega arith) in
      over-upto (2 ^ n) (λ i. i + 1) (λ r. one_if (holds T r s)) ∙
      (ones-between (2 ^ n) (entry T s) (entry T (s + 1)) ∙ omega (arith, b, ok.last, ok.rises.next s h))

  -- and so many are above the last number, and still up to 2^n
  pub above-count : count (λ r. ltb (last_of T) r) (numbers_to (2 ^ n)) ≡ 2 ^ n - last_of T
  unfolding count numbers_to
  above-count =
      let all : ℕ = 2 ^ n in
      over-upto all (λ i. i + 1) (λ r. one_if (ltb (last_of T) r)) ∙
      (sum-eq all (λ i. one_if (ltb (last_of T) (i + 1))) (λ i. one_if (ltb (last_of T) (i + 1) && leb (i + 1) all))
      (λ i l. rw (le-leb (i + 1) all (omega arith)) (also (ltb (last_of T) (i + 1)))) ∙
      (ones-between all (last_of T) all ∙ omega (arith, ok.last)))
    where
      also : (b : Bool) → one_if b ≡ one_if (b && true)
      also true = refl
      also false = refl
