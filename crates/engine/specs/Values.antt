-- The integers of size at most b, each once. Assumes nothing.
use Rattle.std.specs.Prelude.{ℕ, suc, ◌+◌, ◌*◌, ◌≤◌, ◌<◌, ◌≡◌, refl, List, ◌++◌, map, eqb, ℤ, pos, negsuc, nat_abs}
use Rattle.std.proofs.Common.{sym, ap, ap₂, ◌∙◌, arith, eq-eqb, ne_eqb}
use Rattle.laws.specs.Sums.{sum-eq}
use Rattle.laws.specs.Lists.{Each, each_append, each_map, each-upto, upto}
use Rattle.walk.specs.Strings.{over, one_if, count, over-append, over-map, over-upto, over_none}
use Rattle.walk.specs.Counts.{sum_one}
use Rattle.combining.specs.Integers.{same_z}

-- -1, -2, .., -b, then 0, 1, .., b
unfoldable pub values_to : ℕ → List ℤ
values_to b = map negsuc (upto b (λ i. i)) ++ map pos (upto (suc b) (λ i. i))

once : (n x : ℕ) → x < n → over (upto n (λ i. i)) (λ i. one_if (eqb x i)) ≡ 1
once n x h =
    over-upto n (λ i. i) (λ i. one_if (eqb x i)) ∙
    (sum-eq n (λ i. one_if (eqb x i)) (λ i. 1 * one_if (eqb x i)) (λ i l. omega arith) ∙
    sum_one n x (λ i. 1) (λ i. one_if (eqb x i)) (ap one_if (eq-eqb x x refl)) (λ i ne. ap one_if (ne_eqb x i (λ e. ne (sym e)))) h)

-- by the sign of what is counted
pub by_sign : (b : ℕ) (g : ℤ → ℕ) →
    over (values_to b) g ≡ over (upto b (λ i. i)) (λ i. g (negsuc i)) + over (upto (suc b) (λ i. i)) (λ i. g (pos i))
unfolding values_to
by_sign b g =
    over-append g (map negsuc (upto b (λ i. i))) (map pos (upto (suc b) (λ i. i))) ∙
    ap₂ ◌+◌ (over-map negsuc g (upto b (λ i. i))) (over-map pos g (upto (suc b) (λ i. i)))

pub value_once : (b : ℕ) (z : ℤ) → nat_abs z ≤ b → count (same_z z) (values_to b) ≡ 1
unfolding count
value_once b (pos x) h =
    by_sign b (λ z. one_if (same_z (pos x) z)) ∙ ap₂ ◌+◌ (over_none (upto b (λ i. i))) (once (suc b) x (omega arith))
value_once b (negsuc x) h =
    by_sign b (λ z. one_if (same_z (negsuc x) z)) ∙ ap₂ ◌+◌ (once b x h) (over_none (upto (suc b) (λ i. i)))

pub values-small : (b : ℕ) → Each (λ z. nat_abs z ≤ b) (values_to b)
unfolding values_to
values-small b =
    each_append (λ z. nat_abs z ≤ b) (map negsuc (upto b (λ i. i))) (map pos (upto (suc b) (λ i. i)))
    (each_map (λ i. i < b) (λ z. nat_abs z ≤ b) negsuc (upto b (λ i. i)) (λ i h. h) (below b))
    (each_map (λ i. i < suc b) (λ z. nat_abs z ≤ b) pos (upto (suc b) (λ i. i)) (λ i h. omega arith) (below (suc b)))
  where
    below : (n : ℕ) → Each (λ i. i < n) (upto n (λ i. i))
    below n = each-upto (λ i. i < n) (λ i. i) n (λ i h. h)
