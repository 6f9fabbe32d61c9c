-- 01, "Matrix and walk", with 02, order 8: the limit of columns, sizes within a limit or not, and a limit that is raised. Assumes nothing.
use Rattle.std.specs.Prelude.{ℕ, ◌≤◌, ◌<◌, ◌≡◌, Bool, true, false, ◌||◌, ◌↔◌, ltb}
use Rattle.std.proofs.Common.{sym, ◌∙◌, ⊎_elim, arith, lt-ltb, le-ltb, ltb-false}
use Rattle.laws.specs.Tests.{never, neither, lt-or_ge}
use Rattle.laws.specs.Outcome.{Outcome, refuse, ◌>>◌}
use Rattle.laws.specs.Raised.{Raised, raised_check}

-- n is 1 to 192 (02, order 8): the columns of a matrix, and the bits of a string. Definitions `.._under` are told how many columns they
-- allow, so that limits can be compared (engine/Raised); `.._of` are the same at this limit.
abbrev pub most_columns : ℕ
most_columns = 192

-- a size outside 1 to `most`
abbrev pub outside : ℕ → ℕ → Bool
outside most x = ltb x 1 || ltb most x

-- ---- a size within its limit, or not
module _ (most x : ℕ) where
  pub inside : 1 ≤ x → x ≤ most → outside most x ≡ false
  inside a b = rw (le-ltb x 1 a, le-ltb most x b)

  pub outside_below : x < 1 → outside most x ≡ true
  outside_below a = rw (lt-ltb x 1 a)

  pub outside_above : 1 ≤ x → most < x → outside most x ≡ true
  outside_above a b = rw (le-ltb x 1 a, lt-ltb most x b)

  pub within : outside most x ≡ false → (1 ≤ x) × (x ≤ most)
  within e =
      let s = neither (ltb x 1) (ltb most x) e in
      (ltb-false x 1 s.0, ltb-false most x s.1)

-- ---- a limit that is raised (02, order 8)
-- a size that is above one limit and not above another
abbrev pub Between : ℕ → ℕ → ℕ → Type 0
Between most more x = (most < x) × (x ≤ more)

module _ (most more x : ℕ) (h : most ≤ more) where
  outside_still : outside more x ≡ true → outside most x ≡ true
  outside_still e = ⊎_elim (outside_below most x) some (lt-or_ge x 1)
    where
      some : 1 ≤ x → outside most x ≡ true
      some a = ⊎_elim (outside_above most x a) (λ (l : x ≤ most). never (sym (inside more x a (omega arith)) ∙ e)) (lt-or_ge most x)

  -- the sizes that were outside and no longer are
  between_iff : ((outside most x ≡ true) × (outside more x ≡ false)) ↔ Between most more x
  between_iff = (newly, (λ b. (outside_above most x (omega (arith, b.0)) b.0, inside more x (omega (arith, b.0)) b.1)))
    where
      newly : (outside most x ≡ true) × (outside more x ≡ false) → Between most more x
      newly e =
          let s = within more x e.1 in
          ⊎_elim (λ (l : most < x). (l, s.1)) (λ (l : x ≤ most). never (sym (inside most x s.0 l) ∙ e.0)) (lt-or_ge most x)

  -- a size that is not above the old limit is outside as it was
  pub outside-same : x ≤ most → outside more x ≡ outside most x
  outside-same l =
      ⊎_elim (λ (a : x < 1). outside_below more x a ∙ sym (outside_below most x a))
      (λ (a : 1 ≤ x). inside more x a (omega arith) ∙ sym (inside most x a l)) (lt-or_ge x 1)

  -- raising a limit changes an outcome only where it was that limit's refusal, and that is where the size is between the two
  pub limit_raised : {A : Type 0} {i : ℕ} (rest : Outcome A) →
      Raised (Between most more x) i (refuse i (outside most x) >> rest) (refuse i (outside more x) >> rest)
  limit_raised rest = raised_check (outside most x) (outside more x) rest outside_still between_iff
