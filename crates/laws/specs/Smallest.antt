-- The smallest number below a bound that passes a test, if any does. Assumes nothing.
use Rattle.std.specs.Prelude.{ℕ, zero, suc, ◌+◌, ◌<◌, ◌≡◌, refl, Bool, true, false, ◌↔◌}
use Rattle.std.proofs.Common.{sym, subst, ⊎_elim, eq-or-lt_of_le, le_of_suc-le-suc, add-one, arith}
use Rattle.std.proofs.Math.Option.{Option, none, some}

-- what was found below n, or n itself where it passes
abbrev or_else : Option ℕ → Bool → ℕ → Option ℕ
or_else (some x) passes n = some x
or_else none true n = some n
or_else none false n = none

unfoldable pub smallest : ℕ → (ℕ → Bool) → Option ℕ
smallest zero test = none
smallest (suc n) test = or_else (smallest n test) (test n) n

-- ---- what it says
-- none below n passes; or x is below n and passes, and none below x does
abbrev pub Smallest : ℕ → (ℕ → Bool) → Option ℕ → Type 0
Smallest n test none = (y : ℕ) → y < n → test y ≡ false
Smallest n test (some x) = (x < n) × (test x ≡ true) × ((y : ℕ) → y < x → test y ≡ false)

or_smallest : (n : ℕ) (test : ℕ → Bool) (o : Option ℕ) (b : Bool) → test n ≡ b → Smallest n test o → Smallest (suc n) test (or_else o b n)
or_smallest n test (some x) b e l = (omega (arith, l.0), l.1, l.2)
or_smallest n test none true e l = (omega arith, e, l)
or_smallest n test none false e l =
    λ y h. ⊎_elim (λ (q : y ≡ n). rw q e) (λ (q : y < n). l y q) (eq-or-lt_of_le (le_of_suc-le-suc h))

pub smallest_is : (n : ℕ) (test : ℕ → Bool) → Smallest n test (smallest n test)
unfolding smallest
smallest_is zero test = λ y h. absurd (omega arith)
smallest_is (suc n) test = or_smallest n test (smallest n test) (test n) refl (smallest_is n test)

-- ---- and nothing else says so
pub smallest_none : (n : ℕ) (test : ℕ → Bool) → ((y : ℕ) → y < n → test y ≡ false) → smallest n test ≡ none
unfolding smallest
smallest_none zero test f = refl
smallest_none (suc n) test f = rw (smallest_none n test (λ y l. f y (omega arith)), f n (omega arith))

pub smallest_at : (n : ℕ) (test : ℕ → Bool) (x : ℕ) → x < n → test x ≡ true → ((y : ℕ) → y < x → test y ≡ false) →
    smallest n test ≡ some x
unfolding smallest
smallest_at zero test x h t f = absurd (omega arith)
smallest_at (suc n) test x h t f =
    ⊎_elim
    (λ (e : x ≡ n). rw (← e, smallest_none x test f, t))
    (λ (l : x < n). rw (smallest_at n test x l t f))
    (eq-or-lt_of_le (le_of_suc-le-suc h))

pub smallest_iff : (n : ℕ) (test : ℕ → Bool) (o : Option ℕ) → (smallest n test ≡ o) ↔ Smallest n test o
smallest_iff n test o = ((λ e. subst (Smallest n test) e (smallest_is n test)), back o)
  where
    back : (o : Option ℕ) → Smallest n test o → smallest n test ≡ o
    back none f = smallest_none n test f
    back (some x) f = smallest_at n test x f.0 f.1 f.2

pub smallest_lt : (n : ℕ) (test : ℕ → Bool) (x : ℕ) → some x ≡ smallest n test → x < n
smallest_lt n test x e = ((smallest_iff n test (some x)).0 (sym e)).0

-- tests that agree below the bound find the same
pub smallest_eq : (n : ℕ) (f g : ℕ → Bool) → ((y : ℕ) → y < n → f y ≡ g y) → smallest n f ≡ smallest n g
unfolding smallest
smallest_eq zero f g e = refl
smallest_eq (suc n) f g e = rw (smallest_eq n f g (λ y l. e y (omega arith)), e n (omega arith))

-- ---- a loop that counts up and leaves at the first that passes
pub smallest_more : (n : ℕ) (test : ℕ → Bool) → test n ≡ false → smallest n test ≡ none → smallest (n + 1) test ≡ none
unfolding smallest
smallest_more n test e q = rw (add-one n, q, e)

pub smallest_found : (n k : ℕ) (test : ℕ → Bool) → k < n → test k ≡ true → smallest k test ≡ none → some k ≡ smallest n test
smallest_found n k test h e q = sym (smallest_at n test k h e ((smallest_iff k test none).0 q))
