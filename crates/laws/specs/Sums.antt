-- Sums over the numbers below a bound, and tests of any of them. Assumes nothing.
use Rattle.std.specs.Prelude.{ℕ, zero, suc, ◌+◌, ◌*◌, ◌≤◌, ◌<◌, ◌≡◌, refl, Bool, true, false, ◌||◌, ◌≢◌}
use Rattle.std.specs.Prelude.{List, [], ◌∷◌, length, get_or, take}
use Rattle.std.specs.List.{list_any, range_with_len, sum_by}
use Rattle.std.proofs.Common.{sym, ap, ◌∙◌, ⊎_elim, add-zero, eq-or-lt_of_le, le_of_suc-le-suc, lt_irrefl, add-one, arith}
use Rattle.std.proofs.lemmas.List.Sums.{sum_by-cons}
use Rattle.laws.specs.Tests.{neither, reached}

-- g 0 + .. + g (n - 1)
unfoldable pub sum_to : ℕ → (ℕ → ℕ) → ℕ
sum_to zero g = 0
sum_to (suc n) g = g n + sum_to n g

-- whether the test passes at 0, .. or n - 1
unfoldable pub any : ℕ → (ℕ → Bool) → Bool
any zero t = false
any (suc n) t = t n || any n t

-- ---- sums
-- one more term, in the words of a loop that counts up
pub sum_more : (n : ℕ) (g : ℕ → ℕ) → sum_to (n + 1) g ≡ sum_to n g + g n
unfolding sum_to
sum_more n g = rw (add-one n) (omega arith)

pub sum-front : (n : ℕ) (g : ℕ → ℕ) → sum_to (suc n) g ≡ g 0 + sum_to n (λ i. g (suc i))
unfolding sum_to
sum-front zero g = refl
sum-front (suc n) g = omega (arith, sum-front n g)

-- the terms in pairs
pub sum-pairs : (n : ℕ) (g : ℕ → ℕ) → sum_to n (λ i. g (2 * i + 0) + g (2 * i + 1)) ≡ sum_to (2 * n) g
unfolding sum_to
sum-pairs zero g = refl
sum-pairs (suc n) g =
    let e : 2 * suc n ≡ suc (suc (2 * n)) = omega arith in
    rw e (omega (arith, sum-pairs n g, ap g (add-zero (2 * n)), ap g (add-one (2 * n))))

pub sum_plus : (n : ℕ) (g a b : ℕ → ℕ) → ((i : ℕ) → g i ≡ a i + b i) → sum_to n g ≡ sum_to n a + sum_to n b
unfolding sum_to
sum_plus zero g a b e = refl
sum_plus (suc n) g a b e = omega (arith, e n, sum_plus n g a b e)

pub sum-times : (n : ℕ) (a : ℕ → ℕ) (x : ℕ) → sum_to n (λ i. a i * x) ≡ sum_to n a * x
unfolding sum_to
sum-times zero a x = omega arith
sum-times (suc n) a x = omega (arith, sum-times n a x)

pub sum_same : (n x : ℕ) (g : ℕ → ℕ) → ((i : ℕ) → g i ≡ x) → sum_to n g ≡ n * x
unfolding sum_to
sum_same zero x g e = omega arith
sum_same (suc n) x g e = omega (arith, e n, sum_same n x g e)

pub sum-eq : (n : ℕ) (f g : ℕ → ℕ) → ((i : ℕ) → i < n → f i ≡ g i) → sum_to n f ≡ sum_to n g
unfolding sum_to
sum-eq zero f g e = refl
sum-eq (suc n) f g e = omega (arith, e n (omega arith), sum-eq n f g (λ i l. e i (omega arith)))

pub sum_mono : (n : ℕ) (f g : ℕ → ℕ) → ((i : ℕ) → i < n → f i ≤ g i) → sum_to n f ≤ sum_to n g
unfolding sum_to
sum_mono zero f g e = omega arith
sum_mono (suc n) f g e = omega (arith, e n (omega arith), sum_mono n f g (λ i l. e i (omega arith)))

-- terms of at most x each
pub sum-le : (n x : ℕ) (g : ℕ → ℕ) → ((i : ℕ) → i < n → g i ≤ x) → sum_to n g ≤ n * x
sum-le n x g e = omega (arith, sum_mono n g (λ i. x) e, sum_same n x (λ i. x) (λ i. refl))

-- a term is at most the sum
pub term_le : (n i : ℕ) (g : ℕ → ℕ) → i < n → g i ≤ sum_to n g
unfolding sum_to
term_le zero i g h = absurd (omega arith)
term_le (suc n) i g h =
    ⊎_elim (λ (q : i ≡ n). rw q (omega arith)) (λ (q : i < n). omega (arith, term_le n i g q)) (eq-or-lt_of_le (le_of_suc-le-suc h))

-- and so is the sum of the first of its terms
pub sum-front-le : (i n : ℕ) (g : ℕ → ℕ) → i ≤ n → sum_to i g ≤ sum_to n g
unfolding sum_to
sum-front-le i zero g h =
    let z : i ≡ 0 = omega arith in
    rw z (omega arith)
sum-front-le i (suc n) g h =
    ⊎_elim (λ (q : i ≡ suc n). rw q (omega arith)) (λ (q : i < suc n). omega (arith, sum-front-le i n g (le_of_suc-le-suc q)))
    (eq-or-lt_of_le h)

-- sums whose terms are the same but for one place
pub sum_changed : (n i : ℕ) (f g : ℕ → ℕ) → i < n → ((j : ℕ) → j ≢ i → f j ≡ g j) → sum_to n f + g i ≡ sum_to n g + f i
unfolding sum_to
sum_changed zero i f g h e = absurd (omega arith)
sum_changed (suc n) i f g h e =
    ⊎_elim (λ (q : i ≡ n). rw q (omega (arith, sum-eq n f g (λ j l. e j (λ r. lt_irrefl n (omega arith))))))
    (λ (q : i < n). omega (arith, sum_changed n i f g q e, e n (λ r. lt_irrefl n (omega arith)))) (eq-or-lt_of_le (le_of_suc-le-suc h))

-- the sum of a range, as the library's iterators make it
sum_from : (a n : ℕ) (g : ℕ → ℕ) → sum_by g (range_with_len a n) ≡ sum_to n (λ i. g (a + i))
unfolding sum_to
sum_from a zero g = refl
sum_from a (suc n) g =
    let on = sum-eq n (λ i. g (a + 1 + i)) (λ i. g (a + suc i)) (λ i l. ap g (omega arith)) in
    sum_by-cons g a (range_with_len (a + 1) n) ∙
    (ap (λ (x : ℕ). g a + x) (sum_from (a + 1) n g ∙ on) ∙
    (ap (λ (x : ℕ). x + sum_to n (λ i. g (a + suc i))) (ap g (sym (add-zero a))) ∙ sym (sum-front n (λ i. g (a + i)))))

pub sum_range : (n : ℕ) (g : ℕ → ℕ) → sum_by g (range_with_len 0 n) ≡ sum_to n g
sum_range n g = sum_from 0 n g ∙ sum-eq n (λ i. g (0 + i)) g (λ i l. ap g (omega arith))

-- ---- tests, in the words of a loop that counts up and leaves at the first that passes
pub any_none : (t : ℕ → Bool) → any 0 t ≡ false
unfolding any
any_none t = refl

pub any_more : (n : ℕ) (t : ℕ → Bool) → t n ≡ false → any n t ≡ false → any (n + 1) t ≡ false
unfolding any
any_more n t e q = rw (add-one n, e, q)

-- one more test, whether it passes or not
pub any_next : (n : ℕ) (t : ℕ → Bool) → any (n + 1) t ≡ (any n t || t n)
unfolding any
any_next n t = rw (add-one n) (swapped (t n) (any n t))
  where
    swapped : (a b : Bool) → (a || b) ≡ (b || a)
    swapped true true = refl
    swapped true false = refl
    swapped false true = refl
    swapped false false = refl

pub any_found : (n i : ℕ) (t : ℕ → Bool) → i < n → t i ≡ true → any n t ≡ true
unfolding any
any_found zero i t h e = absurd (omega arith)
any_found (suc n) i t h e =
    ⊎_elim (λ (q : i ≡ n). rw (← q, e)) (λ (q : i < n). later (t n) (any_found n i t q e)) (eq-or-lt_of_le (le_of_suc-le-suc h))
  where
    later : (b : Bool) → any n t ≡ true → (b || any n t) ≡ true
    later true p = refl
    later false p = p

pub any_false : (n i : ℕ) (t : ℕ → Bool) → any n t ≡ false → i < n → t i ≡ false
unfolding any
any_false zero i t e h = absurd (omega arith)
any_false (suc n) i t e h =
    let s = neither (t n) (any n t) e in
    ⊎_elim (λ (q : i ≡ n). rw q s.0) (λ (q : i < n). any_false n i t s.1 q) (eq-or-lt_of_le (le_of_suc-le-suc h))

pub any-all : (n : ℕ) (t : ℕ → Bool) → ((i : ℕ) → i < n → t i ≡ false) → any n t ≡ false
unfolding any
any-all zero t e = refl
any-all (suc n) t e = rw (e n (omega arith)) (any-all n t (λ i l. e i (omega arith)))

-- ---- tests as the library's iterators make them: of each number of a range, and of the first items of a list
any-eq : (n : ℕ) (t u : ℕ → Bool) → ((i : ℕ) → t i ≡ u i) → any n t ≡ any n u
unfolding any
any-eq zero t u e = refl
any-eq (suc n) t u e = rw (e n, any-eq n t u e)

any-front : (n : ℕ) (t : ℕ → Bool) → (t 0 || any n (λ i. t (suc i))) ≡ any (suc n) t
unfolding any
any-front zero t = refl
any-front (suc n) t = swapped (t 0) (t (suc n)) (any n (λ i. t (suc i))) ∙ ap (λ (b : Bool). t (suc n) || b) (any-front n t)
  where
    swapped : (a b c : Bool) → (a || (b || c)) ≡ (b || (a || c))
    swapped true true c = refl
    swapped true false c = refl
    swapped false true c = refl
    swapped false false c = refl

any_from : (a n : ℕ) (t : ℕ → Bool) → list_any t (range_with_len a n) ≡ any n (λ i. t (a + i))
unfolding any
any_from a zero t = refl
any_from a (suc n) t =
    ap (λ (b : Bool). t a || b)
    (any_from (a + 1) n t ∙ any-eq n (λ i. t (a + 1 + i)) (λ i. t (a + suc i)) (λ i. ap t (omega arith))) ∙
    (ap (λ (b : Bool). b || any n (λ i. t (a + suc i))) (ap t (sym (add-zero a))) ∙ any-front n (λ i. t (a + i)))

pub any_range : (n : ℕ) (t : ℕ → Bool) → list_any t (range_with_len 0 n) ≡ any n t
any_range n t = any_from 0 n t ∙ any-eq n (λ i. t (0 + i)) t (λ i. ap t (omega arith))

pub any_taken : {A : Type 0} (d : A) (t : A → Bool) (n : ℕ) (xs : List A) → n ≤ length xs →
    list_any t (take n xs) ≡ any n (λ i. t (get_or xs i d))
unfolding any
any_taken d t zero xs h = refl
any_taken d t (suc n) [] h = absurd (omega arith)
any_taken d t (suc n) (x ∷ xs) h =
    ap (λ (b : Bool). t x || b) (any_taken d t n xs (omega arith)) ∙ any-front n (λ i. t (get_or (x ∷ xs) i d))

-- ---- a loop's turns and its end
pub sum_turn : (f : ℕ → ℕ) (v n x : ℕ) → x ≡ f v → n ≡ sum_to v f → n + x ≡ sum_to (v + 1) f
sum_turn f v n x e q = rw (sum_more v f, e, q)

pub sum_done : (f : ℕ → ℕ) (v m n : ℕ) → v ≤ m → m ≤ v → n ≡ sum_to v f → n ≡ sum_to m f
sum_done f v m n = reached (λ k. n ≡ sum_to k f) v m

pub any-done : (t : ℕ → Bool) (v m : ℕ) → v ≤ m → m ≤ v → any v t ≡ false → false ≡ any m t
any-done t v m a b q = sym (reached (λ k. any k t ≡ false) v m a b q)
