-- Whether all numbers of a list pass a test, and being one of a list's numbers: as tests and as facts. Assumes nothing.
use Rattle.std.specs.Prelude.{ℕ, ◌<◌, ◌≡◌, refl, Bool, true, ◌&&◌, List, [], ◌∷◌, ◌⊎◌, ◌↔◌, ltb}
use Rattle.std.proofs.Common.{inl, inr, lt-ltb, ltb-true}
use Rattle.laws.specs.Tests.{both}
use Rattle.laws.specs.Lists.{Each}

-- whether all numbers of a list pass a test
abbrev pub every : (ℕ → Bool) → List ℕ → Bool
every t [] = true
every t (x ∷ xs) = t x && every t xs

-- a number is one of the list's
abbrev pub OneOf : List ℕ → ℕ → Type 0
OneOf [] x = ⊥
OneOf (y ∷ ys) x = (x ≡ y) ⊎ OneOf ys x

module _ (t : ℕ → Bool) (P : ℕ → Type 0) where
  pub every-each : (xs : List ℕ) → ((x : ℕ) → t x ≡ true → P x) → every t xs ≡ true → Each P xs
  every-each [] f e = tt
  every-each (x ∷ xs) f e =
      let s = both (t x) (every t xs) e in
      (f x s.0, every-each xs f s.1)

  pub each-every : (xs : List ℕ) → ((x : ℕ) → P x → t x ≡ true) → Each P xs → every t xs ≡ true
  each-every [] f e = refl
  each-every (x ∷ xs) f e = rw (f x e.0, each-every xs f e.1)

pub every-below : (n : ℕ) (xs : List ℕ) → (every (λ x. ltb x n) xs ≡ true) ↔ Each (λ x. x < n) xs
every-below n xs = (
  every-each (λ x. ltb x n) (λ x. x < n) xs (λ x t. ltb-true x n t),
  each-every (λ x. ltb x n) (λ x. x < n) xs (λ x l. lt-ltb x n l),
)

-- a fact of each number is a fact of whichever is one of them
module _ (P : ℕ → Type 0) where
  pub each_one : (xs : List ℕ) → Each P xs → (r : ℕ) → OneOf xs r → P r
  each_one [] e r o = absurd o
  each_one (x ∷ xs) e r (inl o) = rw o e.0
  each_one (x ∷ xs) e r (inr o) = each_one xs e.1 r o

  pub one_each : (xs : List ℕ) → ((r : ℕ) → OneOf xs r → P r) → Each P xs
  one_each [] f = tt
  one_each (x ∷ xs) f = (f x (inl refl), one_each xs (λ r o. f r (inr o)))
