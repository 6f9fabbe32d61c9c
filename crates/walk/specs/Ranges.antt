-- Sums over a range's numbers and over a list's items, as the library's iterators make them, in the words of `sum_to`. Assumes nothing.
use Rattle.std.specs.Prelude.{ℕ, zero, suc, ◌+◌, ◌≤◌, ◌≡◌, cond, List, [], ◌∷◌, eqb, filter, length, get_or, sum_by}
use Rattle.std.specs.List.{range_with_len}
use Rattle.std.proofs.Common.{refl, ap, arith, add-zero, zero-add}
use Rattle.std.proofs.Math.Path.{fun_ext}
use Rattle.std.proofs.lemmas.List.Sums.{sum_by-cons, length-filter}
use Rattle.laws.specs.Sums.{sum_to, sum_more, sum-front}

-- n numbers from a on
pub sum_from : (a n : ℕ) (f : ℕ → ℕ) → sum_by f (range_with_len a n) + sum_to a f ≡ sum_to (a + n) f
sum_from a zero f = rw (add-zero a) (zero-add (sum_to a f))
sum_from a (suc n) f =
    let next : a + 1 + n ≡ a + suc n = omega arith in
    omega (arith, sum_by-cons f a (range_with_len (a + 1) n), sum_from (a + 1) n f, sum_more a f, ap (λ (k : ℕ). sum_to k f) next)

pub sum_range : (n : ℕ) (f : ℕ → ℕ) → sum_by f (range_with_len 0 n) ≡ sum_to n f
unfolding sum_to
sum_range n f = omega (arith, sum_from 0 n f, ap (λ (k : ℕ). sum_to k f) (zero-add n))

-- of numbers that are 0 or 1, how many are 1
module _ (f : ℕ → ℕ) (few : (i : ℕ) → f i ≤ 1) where
  one : (x : ℕ) → x ≤ 1 → cond (eqb x 1) 1 0 ≡ x
  one zero h = refl
  one (suc zero) h = refl
  one (suc (suc x)) h = absurd (omega arith)

  pub ones_from : (a n : ℕ) → length (filter (λ i. eqb (f i) 1) (range_with_len a n)) + sum_to a f ≡ sum_to (a + n) f
  ones_from a n =
      let same : (λ (i : ℕ). cond (eqb (f i) 1) 1 0) ≡ f = fun_ext (λ i. one (f i) (few i)) in
      omega (
        arith,
        length-filter (λ i. eqb (f i) 1) (range_with_len a n),
        ap (λ (g : ℕ → ℕ). sum_by g (range_with_len a n)) same,
        sum_from a n f,
      )

-- ---- the items of a list
pub sum_items : {A : Type 0} (d : A) (f : A → ℕ) (xs : List A) → sum_by f xs ≡ sum_to (length xs) (λ i. f (get_or xs i d))
unfolding sum_to
sum_items d f [] = refl
sum_items d f (x ∷ xs) =
    omega (arith, sum_by-cons f x xs, sum_items d f xs, sum-front (length xs) (λ i. f (get_or (x ∷ xs) i d)))
