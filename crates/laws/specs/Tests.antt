-- Tests: what passing all of some, or none of them, says; numbers and lists of numbers compared. Assumes nothing.
use Rattle.std.specs.Prelude.{ℕ, zero, suc, ◌≤◌, ◌<◌, ◌≡◌, refl, Bool, true, false, ◌&&◌, ◌||◌, List, [], ◌∷◌, ◌↔◌, ◌⊎◌, eqb, ltb}
use Rattle.std.proofs.Common.{sym, subst, inl, inr, ⊎_elim, arith, eq-eqb, eqb-true, ltb-true, ltb-false}

pub never : {A : Type 0} → false ≡ true → A
never e = absurd (let z : ◌≡◌ {A = ℕ} 0 1 = cc in omega arith)

pub both : (a b : Bool) → (a && b) ≡ true → (a ≡ true) × (b ≡ true)
both true b e = (refl, e)
both false b e = never e

pub neither : (a b : Bool) → (a || b) ≡ false → (a ≡ false) × (b ≡ false)
neither true b e = never (sym e)
neither false b e = (refl, e)

pub either : (a b : Bool) → ((a || b) ≡ true) ↔ ((a ≡ true) ⊎ (b ≡ true))
either true b = ((λ e. inl refl), (λ e. refl))
either false b = ((λ e. inr e), ⊎_elim (λ (e : false ≡ true). never e) (λ (e : b ≡ true). e))

-- ---- numbers
-- below a bound, or not
pub lt-or_ge : (i n : ℕ) → (i < n) ⊎ (n ≤ i)
lt-or_ge i n = go (ltb i n) refl
  where
    go : (b : Bool) → ltb i n ≡ b → (i < n) ⊎ (n ≤ i)
    go true e = inl (ltb-true i n e)
    go false e = inr (ltb-false i n e)

-- a bit
pub zero-or_one : (x : ℕ) → x < 2 → (x ≡ 0) ⊎ (x ≡ 1)
zero-or_one zero h = inl refl
zero-or_one (suc zero) h = inr refl
zero-or_one (suc (suc x)) h = absurd (omega arith)

-- the end of a loop that counts up to n
pub reached : (P : ℕ → Type 0) (i n : ℕ) → i ≤ n → n ≤ i → P i → P n
reached P i n a b =
    let e : i ≡ n = omega arith in
    subst P e

-- ---- whether two lists are one
unfoldable pub same : List ℕ → List ℕ → Bool
same [] [] = true
same [] (y ∷ t) = false
same (x ∷ s) [] = false
same (x ∷ s) (y ∷ t) = eqb x y && same s t

same_so : (s t : List ℕ) → same s t ≡ true → s ≡ t
unfolding same
same_so [] [] e = refl
same_so [] (y ∷ t) e = never e
same_so (x ∷ s) [] e = never e
same_so (x ∷ s) (y ∷ t) e =
    let p = both (eqb x y) (same s t) e in
    rw (eqb-true x y p.0, same_so s t p.1)

same_self : (s : List ℕ) → same s s ≡ true
unfolding same
same_self [] = refl
same_self (x ∷ s) = rw (eq-eqb x x refl) (same_self s)

pub same-is : (s t : List ℕ) → (same s t ≡ true) ↔ (s ≡ t)
same-is s t = (same_so s t, λ e. rw e (same_self t))
