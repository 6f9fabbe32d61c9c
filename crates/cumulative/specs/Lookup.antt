-- Lookup: the s that it gives is the only one with T[s] < r and r ≤ T[s+1], and is found by counting. Assumes nothing.
use Rattle.std.specs.Prelude.{ℕ, zero, suc, ◌+◌, ◌-◌, ◌^◌, ◌≤◌, ◌<◌, min, ◌≡◌, refl, Bool, true, false, cond, ◌&&◌, List, ◌↔◌, ◌⊎◌, eqb}
use Rattle.std.specs.Bool.{then_some}
use Rattle.std.specs.Prelude.{Option, [], ◌∷◌, ltb, leb, length, sum_by, drop}
use Rattle.std.proofs.Common.{sym, ap, ◌∙◌, subst, inl, inr, ⊎_elim, arith, add-one, length-drop, eq-or-lt_of_le}
use Rattle.std.proofs.Common.{eq-eqb, ne_eqb, lt-ltb, le-ltb, le-leb, ltb-true}
use Rattle.std.proofs.Common.{leb-true}
use Rattle.std.proofs.lemmas.Bool.{lt-leb}
use mir.Val.{bool_byte}
use Rattle.laws.specs.Tests.{never, both, lt-or_ge}
use Rattle.laws.specs.Sums.{sum_to, sum-eq, sum-le}
use Rattle.laws.specs.Outcome.{refused, gives, passed, then-gives, gives_inj}
use Rattle.fields.specs.Limits.{outside, inside, within}
use Rattle.walk.specs.Walk.{Answer, sample, missed, row_answer}
use Rattle.walk.specs.Strings.{one_if}
use Rattle.walk.specs.Ranges.{sum_items}
use Rattle.cumulative.specs.Tables.{sizes_unfit, entry, rows_of, last_of, numbers_of, holds, the_one, found, lookup_of}
use Rattle.cumulative.specs.Taken.{Rising, Cumulative, later, taken_iff}

-- how many numbers after the first are below r
unfoldable pub below : List ℕ → ℕ → ℕ
below T r = sum_to (rows_of T) (λ v. one_if (ltb (entry T (v + 1)) r))

-- as the library's iterators add it up
pub below_items : (T : List ℕ) (r : ℕ) → sum_by (λ x. one_if (ltb x r)) (drop 1 T) ≡ below T r
unfolding below sum_to
below_items [] r = refl
below_items (x ∷ xs) r =
    let rows : length (x ∷ xs) - 1 ≡ length xs = omega arith in
    rw rows
    (sum_items 0 (λ y. one_if (ltb y r)) xs ∙
    sum-eq (length xs) (λ v. one_if (ltb (entry xs v) r)) (λ v. one_if (ltb (entry (x ∷ xs) (v + 1)) r))
    (λ v l. ap (λ (k : ℕ). one_if (ltb (entry (x ∷ xs) k) r)) (sym (add-one v))))

one-le : (b : Bool) → one_if b ≤ 1
one-le true = omega arith
one-le false = omega arith

pub below_fits : (xs : List ℕ) (r : ℕ) → length xs < 2 ^ 64 → sum_by (λ x. one_if (ltb x r)) xs < 2 ^ 64
below_fits xs r h =
    omega (
      arith,
      sum_items 0 (λ x. one_if (ltb x r)) xs,
      sum-le (length xs) 1 (λ i. one_if (ltb (entry xs i) r)) (λ i l. one-le (ltb (entry xs i) r)),
    )

below-le : (T : List ℕ) (r : ℕ) → below T r ≤ rows_of T
unfolding below
below-le T r =
    omega (
      arith,
      sum-le (rows_of T) 1 (λ v. one_if (ltb (entry T (v + 1)) r)) (λ v l. one-le (ltb (entry T (v + 1)) r)),
    )

-- what is said of s: it is a row of the table, T[s] < r, and r ≤ T[s+1]
pub record Holds (T : List ℕ) (r s : ℕ) : Type 0 where
  pub row : s < rows_of T
  pub above : entry T s < r
  pub upto : r ≤ entry T (s + 1)

-- ---- answers
sample_inj : {s t : ℕ} → sample s ≡ sample t → s ≡ t
sample_inj e = cc

miss_no_sample : {A : Type 0} (s : ℕ) → missed ≡ sample s → A
miss_no_sample s e = absurd (let z : ◌≡◌ {A = ℕ} 0 1 = cc in omega arith)

-- ---- the test
pub holds_iff : (T : List ℕ) (r s : ℕ) → s < rows_of T → (holds T r s ≡ true) ↔ Holds T r s
holds_iff T r s h = (
  (λ e. let b = both (ltb (entry T s) r) (leb r (entry T (s + 1))) e in
      record { row = h; above = ltb-true _ _ b.0; upto = leb-true _ _ b.1 }),
  (λ q. rw (lt-ltb (entry T s) r q.above, le-leb r (entry T (s + 1)) q.upto)),
)

-- one of two answers, by a test
chosen : (b : Bool) (x y a : Answer) → (b ≡ true → x ≡ a) → (b ≡ false → y ≡ a) → cond b x y ≡ a
chosen true x y a t f = t refl
chosen false x y a t f = f refl

-- a test that only s passes
the_one_lem : (m s : ℕ) (test : ℕ → Bool) → s < m → test s ≡ true → ((t : ℕ) → t < m → test t ≡ true → t ≡ s) → the_one m test ≡ sample s
unfolding the_one
the_one_lem zero s test h e u = absurd (omega arith)
the_one_lem (suc m) s test h e u =
    chosen (test m) (sample m) (the_one m test) (sample s) (λ q. ap sample (u m (omega arith) q))
    (λ q. ⊎_elim (λ (l : s < m). the_one_lem m s test l e (λ t k. u t (omega arith)))
    (λ (l : m ≤ s). let z : s ≡ m = omega arith in never (sym q ∙ (ap test (sym z) ∙ e))) (lt-or_ge s m))

-- a test that none passes
no_one : (m : ℕ) (test : ℕ → Bool) → ((t : ℕ) → t < m → test t ≡ true → ⊥) → the_one m test ≡ missed
unfolding the_one
no_one zero test u = refl
no_one (suc m) test u =
    chosen (test m) (sample m) (the_one m test) missed (λ q. absurd (u m (omega arith) q))
    (λ q. no_one m test (λ t k. u t (omega arith)))

-- ---- in a table whose numbers do not fall
module _ (T : List ℕ) (up : Rising T) (r : ℕ) where
  -- no two rows hold r
  pub only_one : (s t : ℕ) → Holds T r s → Holds T r t → s ≡ t
  only_one s t a b =
      ⊎_elim (λ (l : s < t). absurd (crossed s t a b l))
      (λ (l : t ≤ s). ⊎_elim (λ (k : t < s). absurd (crossed t s b a k)) (λ (k : s ≤ t). omega arith) (lt-or_ge t s)) (lt-or_ge s t)
    where
      crossed : (s t : ℕ) → Holds T r s → Holds T r t → s < t → ⊥
      crossed s t a b l = omega (arith, a.upto, b.above, later T up (s + 1) t (omega arith) (omega (arith, b.row)))

  -- the s that holds r is found
  found_one : (s : ℕ) → Holds T r s → found T r ≡ sample s
  unfolding found
  found_one s q =
      the_one_lem (rows_of T) s (holds T r) q.row ((holds_iff T r s q.row).1 q)
      (λ t l e. only_one t s ((holds_iff T r t l).0 e) q)

  -- above the last number there is none
  found_none : last_of T < r → found T r ≡ missed
  unfolding found
  found_none h =
      no_one (rows_of T) (holds T r)
      (λ t l e. let q = (holds_iff T r t l).0 e in omega (arith, h, q.upto, later T up (t + 1) (rows_of T) (omega arith) (omega arith)))

  -- from the first number on there is one, up to the last
  search_to : (m : ℕ) → m ≤ rows_of T → entry T 0 < r → ((s : ℕ) × Holds T r s) ⊎ (entry T m < r)
  search_to zero h z = inr z
  search_to (suc m) h z =
      ⊎_elim (λ (l : entry T (suc m) < r). inr l)
      (λ (l : r ≤ entry T (suc m)).
      ⊎_elim (λ (q : (s : ℕ) × Holds T r s). inl q)
      (λ (k : entry T m < r). inl (m, record { row = h; above = k; upto = rw (add-one m) l })) (search_to m (omega arith) z))
      (lt-or_ge (entry T (suc m)) r)

-- ---- how many numbers are below r
-- a test as a number, as the code has it
pub one_is : (b : Bool) → (bool_byte b ≡ one_if b) × (bool_byte b ≤ 1)
one_is true = (refl, omega arith)
one_is false = (refl, omega arith)

-- of the numbers 1 to N those above a and up to b
pub ones-between : (N a b : ℕ) → sum_to N (λ i. one_if (ltb a (i + 1) && leb (i + 1) b)) ≡ min b N - min a N
unfolding sum_to
ones-between zero a b = omega arith
ones-between (suc N) a b =
    ⊎_elim
    (λ (l : a < N + 1).
    ⊎_elim (λ (k : b < N + 1). rw (lt-ltb a (N + 1) l, lt-leb (N + 1) b k) (omega (arith, ones-between N a b)))
    (λ (k : N + 1 ≤ b). rw (lt-ltb a (N + 1) l, le-leb (N + 1) b k) (omega (arith, ones-between N a b))) (lt-or_ge b (N + 1)))
    (λ (l : N + 1 ≤ a). rw (le-ltb a (N + 1) l) (omega (arith, ones-between N a b))) (lt-or_ge a (N + 1))

-- the first s numbers after the first, and no other
counted : (T : List ℕ) (r s : ℕ) → s ≤ rows_of T → ((v : ℕ) → v < s → entry T (v + 1) < r) →
    ((v : ℕ) → s ≤ v → v < rows_of T → r ≤ entry T (v + 1)) → below T r ≡ s
unfolding below
counted T r s h a b =
    sum-eq (rows_of T) (λ v. one_if (ltb (entry T (v + 1)) r)) (λ v. one_if (ltb 0 (v + 1) && leb (v + 1) s))
    (λ v l. let z = lt-ltb 0 (v + 1) (omega arith) in
    ⊎_elim (λ (k : v < s). rw (lt-ltb (entry T (v + 1)) r (a v k), z, le-leb (v + 1) s (omega arith)))
    (λ (k : s ≤ v). rw (le-ltb (entry T (v + 1)) r (b v k l), z, lt-leb (v + 1) s (omega arith))) (lt-or_ge v s)) ∙
    (ones-between (rows_of T) 0 s ∙ omega arith)

module _ (T : List ℕ) (up : Rising T) (r : ℕ) where
  below_row : (s : ℕ) → Holds T r s → below T r ≡ s
  below_row s q =
      counted T r s (omega (arith, q.row))
      (λ v l. omega (arith, q.above, later T up (v + 1) s (omega arith) (omega (arith, q.row))))
      (λ v l k. omega (arith, q.upto, later T up (s + 1) (v + 1) (omega arith) (omega arith)))

  below_all : last_of T < r → below T r ≡ rows_of T
  below_all h =
      counted T r (rows_of T) (omega arith) (λ v l. omega (arith, h, later T up (v + 1) (rows_of T) (omega arith) (omega arith)))
      (λ v l k. absurd (omega arith))

-- ---- in a table that is taken, and of a number from 1 on
module _ (T : List ℕ) (n : ℕ) (ok : Cumulative T n) (r : ℕ) (z : 1 ≤ r) where
  -- either some row holds r, or r is above the last number
  one_or-none : ((s : ℕ) × Holds T r s) ⊎ (last_of T < r)
  one_or-none = search_to T ok.rises r (rows_of T) (omega arith) (rw ok.first (omega arith))

  -- what is found is the one s with T[s] < r and r ≤ T[s+1]
  pub found_iff : (s : ℕ) → (found T r ≡ sample s) ↔ Holds T r s
  found_iff s = (back one_or-none, found_one T ok.rises r s)
    where
      back : ((t : ℕ) × Holds T r t) ⊎ (last_of T < r) → found T r ≡ sample s → Holds T r s
      back (inl q) e =
          let t = found_one T ok.rises r q.0 q.1 in
          let same : q.0 ≡ s = sample_inj (sym t ∙ e) in
          subst (Holds T r) same q.1
      back (inr l) e = miss_no_sample s (sym (found_none T ok.rises r l) ∙ e)

  -- and it is missed exactly above the last number
  pub missed_iff : (found T r ≡ missed) ↔ (last_of T < r)
  missed_iff = (back one_or-none, found_none T ok.rises r)
    where
      back : ((t : ℕ) × Holds T r t) ⊎ (last_of T < r) → found T r ≡ missed → last_of T < r
      back (inl q) e = miss_no_sample q.0 (sym e ∙ found_one T ok.rises r q.0 q.1)
      back (inr l) e = l

  -- and it is found by counting
  pub found_below : found T r ≡ cond (eqb (below T r) (rows_of T)) missed (sample (below T r))
  found_below =
      ⊎_elim
      (λ (q : (s : ℕ) × Holds T r s).
      let k = below_row T ok.rises r q.0 q.1 in
      rw (k, ne_eqb q.0 (rows_of T) (λ e. absurd (omega (arith, q.1.row)))) (found_one T ok.rises r q.0 q.1))
      (λ (l : last_of T < r). rw (eq-eqb (below T r) (rows_of T) (below_all T ok.rises r l)) (found_none T ok.rises r l)) one_or-none

-- ---- the checks
module _ (T : List ℕ) (n r : ℕ) where
  pub lookup_sizes : sizes_unfit (length T) n ≡ true → lookup_of T n r ≡ refused 3
  unfolding lookup_of
  lookup_sizes a = rw a

  module _ (a : sizes_unfit (length T) n ≡ false) where
    pub lookup_range : outside (2 ^ n) r ≡ true → lookup_of T n r ≡ refused 3
    unfolding lookup_of
    lookup_range b = rw (a, b)

    module _ (b : outside (2 ^ n) r ≡ false) where
      pub lookup_numbers : (k : ℕ) → refused k ≡ numbers_of T n → lookup_of T n r ≡ refused k
      unfolding lookup_of
      lookup_numbers k e = rw (a, b, ← e)

      lookup_passes : gives tt ≡ numbers_of T n → lookup_of T n r ≡ gives (found T r)
      unfolding lookup_of
      lookup_passes e = rw (a, b, ← e)

      -- past the checks, by the count
      module _ (e : gives tt ≡ numbers_of T n) (k : ℕ) (q : k ≡ below T r) where
        by_count : lookup_of T n r ≡ gives (cond (eqb k (rows_of T)) missed (sample k))
        by_count = rw (q, lookup_passes e) (ap gives (found_below T n ((taken_iff T n).0 (a, sym e)) r (within (2 ^ n) r b).0))

        -- a miss where it is all of them, and otherwise the sample
        told : k ≤ rows_of T → row_answer (then_some (ltb k (rows_of T)) k) ≡ cond (eqb k (rows_of T)) missed (sample k)
        told h =
            ⊎_elim (λ (i : k ≡ rows_of T). rw (le-ltb k (rows_of T) (omega arith), eq-eqb k (rows_of T) i))
            (λ (l : k < rows_of T). rw (lt-ltb k (rows_of T) l, ne_eqb k (rows_of T) (λ i. absurd (omega arith))))
            (eq-or-lt_of_le h)

        -- in the words of the code
        pub lookup_counted : (o : Option ℕ) → o ≡ then_some (ltb k (length (drop 1 T))) k → gives (row_answer o) ≡ lookup_of T n r
        lookup_counted o p =
            rw (p, length-drop 1 T) (ap gives (told (omega (arith, q, below-le T r))) ∙ sym by_count)

  -- lookup takes exactly the cumulative tables, with a number from 1 to 2^n
  pub lookup_iff : (x : Answer) → (lookup_of T n r ≡ gives x) ↔ (Cumulative T n × (1 ≤ r) × (r ≤ 2 ^ n) × (found T r ≡ x))
  unfolding lookup_of
  lookup_iff x = (
    (λ e.
        let c3 = passed 3 (sizes_unfit (length T) n) _ x e in
        let cr = passed 3 (outside (2 ^ n) r) _ x c3.1 in
        let c15 = then-gives (numbers_of T n) _ x cr.1 in
        let w = within (2 ^ n) r cr.0 in
        ((taken_iff T n).0 (c3.0, c15.0), w.0, w.1, gives_inj c15.1)),
    (λ p. let t = (taken_iff T n).1 p.0 in rw (t.0, t.1, inside (2 ^ n) r p.1 p.2, p.3)),
  )

  -- the s that it gives is the only one with T[s] < r and r ≤ T[s+1]
  pub lookup_only : (s : ℕ) → lookup_of T n r ≡ gives (sample s) → Holds T r s × ((t : ℕ) → Holds T r t → t ≡ s)
  lookup_only s e =
      let l = (lookup_iff (sample s)).0 e in
      let q = (found_iff T n l.0 r l.1 s).0 l.3 in
      (q, λ t h. only_one T l.0.rises r t s h q)

  -- and it misses exactly above the last number
  pub lookup_misses_iff : Cumulative T n → 1 ≤ r → r ≤ 2 ^ n → (lookup_of T n r ≡ gives missed) ↔ (last_of T < r)
  lookup_misses_iff ok z top =
      let m = missed_iff T n ok r z in
      let l = lookup_iff missed in
      ((λ e. m.0 (l.0 e).3), (λ h. l.1 (ok, z, top, m.1 h)))
