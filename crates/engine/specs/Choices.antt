-- All choices of one element from each of four lists, and how often a combination of four comes up among them: the sum of the products of
-- how often each of the four does. For any lists, and any combination. Assumes nothing.
use Prim.Native.Nat.{ℕ, ◌+◌, ◌*◌}
use Rattle.std.specs.Prelude.{◌≡◌, refl, Bool, ◌&&◌, ◌⊎◌, length}
use Rattle.std.proofs.Math.Path.{sym, ap, ap₂}
use Rattle.std.proofs.Common.{◌∙◌, mul_comm, mul-one, mul-zero}
use Rattle.std.proofs.Math.Bool.{true, false, cond}
use mathlib.Core.List.{List, [], ◌∷◌, ◌++◌, map}
use Rattle.std.proofs.Math.Logic.{inl, inr, ⊎_elim}
use native.Mathlib.Omega.{arith}
use Rattle.laws.specs.Lists.{Each, each_append, each_map, each_more}
use Rattle.walk.specs.Strings.{over, one_if, count, over-append, over-map, over-same, over_none, over-all, over_plus, over-times}

-- what f makes of each element, one after another
unfoldable pub concat_map : {A B : Type 0} → List A → (A → List B) → List B
concat_map [] f = []
concat_map (x ∷ xs) f = f x ++ concat_map xs f

pub record Four (A : Type 0) : Type 0 where
  pub x1 : A
  pub x2 : A
  pub x3 : A
  pub x4 : A

abbrev pub four : {A : Type 0} → A → A → A → A → Four A
four a b c d = record { x1 = a; x2 = b; x3 = c; x4 = d }

-- every choice of one element from each list
unfoldable pub fours : {A : Type 0} → List A → List A → List A → List A → List (Four A)
fours xs1 xs2 xs3 xs4 = concat_map xs1 (λ a. concat_map xs2 (λ b. concat_map xs3 (λ c. map (λ d. four a b c d) xs4)))

-- ---- sums over choices are sums within sums
over-concat : {A B : Type 0} (xs : List A) (f : A → List B) (g : B → ℕ) → over (concat_map xs f) g ≡ over xs (λ x. over (f x) g)
unfolding concat_map over
over-concat [] f g = refl
over-concat (x ∷ xs) f g = over-append g (f x) (concat_map xs f) ∙ ap (λ (n : ℕ). over (f x) g + n) (over-concat xs f g)

over-fours : {A : Type 0} (xs1 xs2 xs3 xs4 : List A) (g : Four A → ℕ) →
    over (fours xs1 xs2 xs3 xs4) g ≡ over xs1 (λ a. over xs2 (λ b. over xs3 (λ c. over xs4 (λ d. g (four a b c d)))))
unfolding fours
over-fours xs1 xs2 xs3 xs4 g =
    over-concat xs1 (λ a. concat_map xs2 (λ b. concat_map xs3 (λ c. map (λ d. four a b c d) xs4))) g ∙
    over-all _ _ xs1
    (λ a. over-concat xs2 (λ b. concat_map xs3 (λ c. map (λ d. four a b c d) xs4)) g ∙
    over-all _ _ xs2
    (λ b. over-concat xs3 (λ c. map (λ d. four a b c d) xs4) g ∙ over-all _ _ xs3 (λ c. over-map (λ d. four a b c d) g xs4)))

-- what is chosen may be chosen by something else
pub fours-map : {X A : Type 0} (f1 f2 f3 f4 : X → A) (xs1 xs2 xs3 xs4 : List X) (g : Four A → ℕ) →
    over (fours (map f1 xs1) (map f2 xs2) (map f3 xs3) (map f4 xs4)) g ≡
    over (fours xs1 xs2 xs3 xs4) (λ q. g (four (f1 q.x1) (f2 q.x2) (f3 q.x3) (f4 q.x4)))
fours-map f1 f2 f3 f4 xs1 xs2 xs3 xs4 g =
    over-fours (map f1 xs1) (map f2 xs2) (map f3 xs3) (map f4 xs4) g ∙
    (over-map f1 _ xs1 ∙
    over-all _ _ xs1
    (λ a. over-map f2 _ xs2 ∙
    over-all _ _ xs2
    (λ b. over-map f3 _ xs3 ∙ over-all _ _ xs3 (λ c. over-map f4 (λ d. g (four (f1 a) (f2 b) (f3 c) d)) xs4))) ∙
    sym (over-fours xs1 xs2 xs3 xs4 (λ q. g (four (f1 q.x1) (f2 q.x2) (f3 q.x3) (f4 q.x4)))))

-- ---- a fact of every choice
each-concat : {A B : Type 0} (P : A → Type 0) (Q : B → Type 0) (xs : List A) (f : A → List B) → ((x : A) → P x → Each Q (f x)) →
    Each P xs → Each Q (concat_map xs f)
unfolding concat_map
each-concat P Q [] f h e = tt
each-concat P Q (x ∷ xs) f h e = each_append Q (f x) (concat_map xs f) (h x e.0) (each-concat P Q xs f h e.1)

pub each-fours : {A : Type 0} (P1 P2 P3 P4 : A → Type 0) (Q : Four A → Type 0) (xs1 xs2 xs3 xs4 : List A) →
    ((a b c d : A) → P1 a → P2 b → P3 c → P4 d → Q (four a b c d)) → Each P1 xs1 → Each P2 xs2 → Each P3 xs3 → Each P4 xs4 →
    Each Q (fours xs1 xs2 xs3 xs4)
unfolding fours
each-fours P1 P2 P3 P4 Q xs1 xs2 xs3 xs4 h e1 e2 e3 e4 =
    each-concat P1 Q xs1 _
    (λ a pa. each-concat P2 Q xs2 _
    (λ b pb. each-concat P3 Q xs3 _
    (λ c pc. each_map P4 Q (λ d. four a b c d) xs4 (λ d pd. h a b c d pa pb pc pd) e4) e3) e2) e1

-- ---- a sum of products, one factor for each of the four
over_by : {A : Type 0} (g : A → ℕ) (k : ℕ) (xs : List A) → over xs (λ x. g x * k) ≡ over xs g * k
over_by g k xs = over-all _ _ xs (λ x. mul_comm (g x) k) ∙ (over-times k g xs ∙ mul_comm k (over xs g))

regroup : (a b c d e : ℕ) → a * b * c * d * e ≡ a * (b * (c * (d * e)))
regroup a b c d e = omega arith

-- what the four chosen weigh, multiplied
abbrev weights : {A : Type 0} → (w1 w2 w3 w4 : A → ℕ) → Four A → ℕ
weights w1 w2 w3 w4 q = w1 q.x1 * w2 q.x2 * w3 q.x3 * w4 q.x4

module _ {A : Type 0} (w1 w2 w3 w4 : A → ℕ) (xs1 xs2 xs3 xs4 : List A) where
  module _ (g : A → A → A → A → ℕ) where
    within_3 : (k l m : ℕ) (h : A → ℕ) (xs : List A) → over xs (λ x. k * (l * (m * h x))) ≡ k * (l * (m * over xs h))
    within_3 k l m h xs =
        over-times k _ xs ∙ ap (λ (n : ℕ). k * n) (over-times l _ xs ∙ ap (λ (n : ℕ). l * n) (over-times m h xs))

    within_2 : (k l : ℕ) (h : A → ℕ) (xs : List A) → over xs (λ x. k * (l * h x)) ≡ k * (l * over xs h)
    within_2 k l h xs = over-times k _ xs ∙ ap (λ (n : ℕ). k * n) (over-times l h xs)

    over-weights : over (fours xs1 xs2 xs3 xs4) (λ q. weights w1 w2 w3 w4 q * g q.x1 q.x2 q.x3 q.x4) ≡
        over xs1 (λ a. w1 a * over xs2 (λ b. w2 b * over xs3 (λ c. w3 c * over xs4 (λ d. w4 d * g a b c d))))
    over-weights =
        over-fours xs1 xs2 xs3 xs4 (λ q. weights w1 w2 w3 w4 q * g q.x1 q.x2 q.x3 q.x4) ∙
        over-all _ _ xs1
        (λ a. over-all _ _ xs2
        (λ b. over-all _ _ xs3
        (λ c. over-all _ _ xs4 (λ d. regroup (w1 a) (w2 b) (w3 c) (w4 d) (g a b c d)) ∙
        within_3 (w1 a) (w2 b) (w3 c) (λ d. w4 d * g a b c d) xs4) ∙
        within_2 (w1 a) (w2 b) (λ c. w3 c * over xs4 (λ d. w4 d * g a b c d)) xs3) ∙
        over-times (w1 a) (λ b. w2 b * over xs3 (λ c. w3 c * over xs4 (λ d. w4 d * g a b c d))) xs2)

  -- the factors are summed one by one
  over-product : over (fours xs1 xs2 xs3 xs4) (weights w1 w2 w3 w4) ≡ over xs1 w1 * over xs2 w2 * over xs3 w3 * over xs4 w4
  over-product =
      over-all _ _ (fours xs1 xs2 xs3 xs4) (λ q. sym (mul-one (weights w1 w2 w3 w4 q))) ∙
      (over-weights (λ a b c d. 1) ∙
      (over_by w1 _ xs1 ∙
      (ap (λ (n : ℕ). over xs1 w1 * n)
      (over_by w2 _ xs2 ∙
      ap (λ (n : ℕ). over xs2 w2 * n) (over_by w3 _ xs3 ∙ ap (λ (n : ℕ). over xs3 w3 * n) (over_by w4 1 xs4))) ∙
      (sym (regroup (over xs1 w1) (over xs2 w2) (over xs3 w3) (over xs4 w4) 1) ∙
      mul-one (over xs1 w1 * over xs2 w2 * over xs3 w3 * over xs4 w4)))))

-- ---- a sum by values
-- how often v is in a list, by a test of equality
unfoldable pub often : {A : Type 0} → (A → A → Bool) → List A → A → ℕ
often same xs v = count (λ x. same x v) xs

module _ {A : Type 0} (same : A → A → Bool) (same_so : (a b : A) → same a b ≡ true → a ≡ b) (values : List A) where
  -- x is among the values, and there once
  abbrev pub Once : A → Type 0
  Once x = count (same x) values ≡ 1

  only : (g : A → ℕ) (x : A) → Once x ⊎ (g x ≡ 0) → over values (λ v. one_if (same x v) * g v) ≡ g x
  unfolding count
  only g x e =
      over-all _ _ values (λ v. at v (same x v) refl) ∙
      (over_by (λ v. one_if (same x v)) (g x) values ∙
      ⊎_elim (λ (h : Once x). rw h (omega arith)) (λ (h : g x ≡ 0). rw h (omega arith)) e)
    where
      at : (v : A) (b : Bool) → same x v ≡ b → one_if b * g v ≡ one_if b * g x
      at v true q = rw (same_so x v q)
      at v false q = omega arith

  -- a sum over a list whose elements are among the values, or count nothing
  by_value : (g : A → ℕ) (xs : List A) → Each (λ x. Once x ⊎ (g x ≡ 0)) xs → over xs g ≡ over values (λ v. often same xs v * g v)
  unfolding often count over
  by_value g [] e = sym (over-all _ _ values (λ v. none (g v)) ∙ over_none values)
    where
      none : (n : ℕ) → 0 * n ≡ 0
      none n = omega arith
  by_value g (x ∷ xs) e =
      ap₂ ◌+◌ (sym (only g x e.0)) (by_value g xs e.1) ∙
      (sym (over_plus (λ v. one_if (same x v) * g v) (λ v. often same xs v * g v) values) ∙
      over-all _ _ values (λ v. sum (one_if (same x v)) (often same xs v) (g v)))
    where
      sum : (a b c : ℕ) → a * c + b * c ≡ (a + b) * c
      sum a b c = omega arith

  vanish : (o h : A → ℕ) → ((v : A) → h v ≡ 0) → over values (λ v. o v * h v) ≡ 0
  vanish o h e = over-all _ _ values (λ v. rw (e v) (mul-zero (o v))) ∙ over_none values

  -- ---- four lists, and a test of four
  module _ (t : A → A → A → A → Bool) (xs1 xs2 xs3 xs4 : List A) where
    -- how often the four of a choice come up, multiplied
    abbrev pub product : Four A → ℕ
    product q = often same xs1 q.x1 * often same xs2 q.x2 * often same xs3 q.x3 * often same xs4 q.x4

    abbrev g : A → A → A → A → ℕ
    g a b c d = one_if (t a b c d)

    g3 : A → A → A → ℕ
    g3 a b c = over values (λ d. often same xs4 d * g a b c d)

    g2 : A → A → ℕ
    g2 a b = over values (λ c. often same xs3 c * g3 a b c)

    g1 : A → ℕ
    g1 a = over values (λ b. often same xs2 b * g2 a b)

    -- each element is among the values, once, or no choice with it passes
    module _ (e1 : Each (λ x. Once x ⊎ ((b c d : A) → t x b c d ≡ false)) xs1)
        (e2 : Each (λ x. Once x ⊎ ((a c d : A) → t a x c d ≡ false)) xs2)
        (e3 : Each (λ x. Once x ⊎ ((a b d : A) → t a b x d ≡ false)) xs3)
        (e4 : Each (λ x. Once x ⊎ ((a b c : A) → t a b c x ≡ false)) xs4) where
      fourth : (a b c : A) → over xs4 (λ d. g a b c d) ≡ g3 a b c
      unfolding g3
      fourth a b c =
          by_value (g a b c) xs4
          (each_more _ _ xs4 (λ x. ⊎_elim (λ (h : Once x). inl h) (λ (h : (a b c : A) → t a b c x ≡ false). inr (ap one_if (h a b c)))) e4)

      third : (a b : A) → over xs3 (λ c. g3 a b c) ≡ g2 a b
      unfolding g2 g3
      third a b =
          by_value (g3 a b) xs3
          (each_more _ _ xs3
          (λ x. ⊎_elim (λ (h : Once x). inl h)
          (λ (h : (a b d : A) → t a b x d ≡ false). inr (vanish (often same xs4) (g a b x) (λ d. ap one_if (h a b d))))) e3)

      second : (a : A) → over xs2 (λ b. g2 a b) ≡ g1 a
      unfolding g1 g2 g3
      second a =
          by_value (g2 a) xs2
          (each_more _ _ xs2
          (λ x. ⊎_elim (λ (h : Once x). inl h)
          (λ (h : (a c d : A) → t a x c d ≡ false).
          inr (vanish (often same xs3) (g3 a x) (λ c. vanish (often same xs4) (g a x c) (λ d. ap one_if (h a c d)))))) e2)

      first : over xs1 (λ a. g1 a) ≡ over values (λ a. often same xs1 a * g1 a)
      unfolding g1 g2 g3
      first =
          by_value g1 xs1
          (each_more _ _ xs1
          (λ x. ⊎_elim (λ (h : Once x). inl h)
          (λ (h : (b c d : A) → t x b c d ≡ false).
          inr
          (vanish (often same xs2) (g2 x)
          (λ b. vanish (often same xs3) (g3 x b) (λ c. vanish (often same xs4) (g x b c) (λ d. ap one_if (h b c d))))))) e1)

      -- of all choices as many pass as the products of the values that pass add up to
      pub four_count : count (λ q. t q.x1 q.x2 q.x3 q.x4) (fours xs1 xs2 xs3 xs4) ≡
          over (fours values values values values) (λ q. cond (t q.x1 q.x2 q.x3 q.x4) (product q) 0)
      unfolding count g1 g2 g3
      four_count =
          over-fours xs1 xs2 xs3 xs4 (λ q. g q.x1 q.x2 q.x3 q.x4) ∙
          (over-all _ _ xs1 (λ a. over-all _ _ xs2 (λ b. over-all _ _ xs3 (λ c. fourth a b c) ∙ third a b) ∙ second a) ∙
          (first ∙
          (sym (over-weights (often same xs1) (often same xs2) (often same xs3) (often same xs4) values values values values g) ∙
          over-all _ _ (fours values values values values) (λ q. passes (product q) (t q.x1 q.x2 q.x3 q.x4)))))
        where
          passes : (n : ℕ) (b : Bool) → n * one_if b ≡ cond b n 0
          passes n true = omega arith
          passes n false = omega arith

-- ---- how many choices there are, and in how many all four pass a test of their own
all_ones : {A : Type 0} (xs : List A) → over xs (λ x. 1) ≡ length xs
all_ones xs = over-same 1 xs ∙ mul-one (length xs)

pub length-fours : {A : Type 0} (xs1 xs2 xs3 xs4 : List A) →
    length (fours xs1 xs2 xs3 xs4) ≡ length xs1 * length xs2 * length xs3 * length xs4
length-fours xs1 xs2 xs3 xs4 =
    sym (all_ones (fours xs1 xs2 xs3 xs4)) ∙
    (over-product (λ x. 1) (λ x. 1) (λ x. 1) (λ x. 1) xs1 xs2 xs3 xs4 ∙ rw (all_ones xs1, all_ones xs2, all_ones xs3, all_ones xs4))

pub count-all : {A : Type 0} (t1 t2 t3 t4 : A → Bool) (xs1 xs2 xs3 xs4 : List A) →
    count (λ q. t1 q.x1 && t2 q.x2 && t3 q.x3 && t4 q.x4) (fours xs1 xs2 xs3 xs4) ≡
    count t1 xs1 * count t2 xs2 * count t3 xs3 * count t4 xs4
unfolding count
count-all t1 t2 t3 t4 xs1 xs2 xs3 xs4 =
    over-all _ _ (fours xs1 xs2 xs3 xs4) (λ q. all (t1 q.x1) (t2 q.x2) (t3 q.x3) (t4 q.x4)) ∙
    over-product (λ x. one_if (t1 x)) (λ x. one_if (t2 x)) (λ x. one_if (t3 x)) (λ x. one_if (t4 x)) xs1 xs2 xs3 xs4
  where
    both : (a b : Bool) → one_if (a && b) ≡ one_if a * one_if b
    both true b = omega arith
    both false b = omega arith

    all : (a b c d : Bool) → one_if (a && b && c && d) ≡ one_if a * one_if b * one_if c * one_if d
    all a b c d = rw (both (a && b && c) d, both (a && b) c, both a b)
