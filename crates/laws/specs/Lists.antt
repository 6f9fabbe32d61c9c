-- Lists by their elements and by their blocks, and facts of every element. Assumes nothing.
use Prim.Native.Nat.{ℕ, zero, suc, ◌+◌, ◌-◌, ◌*◌, ◌/◌, ◌%◌, ◌≤◌, ◌<◌}
use Rattle.std.specs.Prelude.{◌≡◌, take, drop, set, replicate}
use Rattle.std.proofs.Math.Path.{refl, sym, ap}
use Rattle.std.proofs.Common.{◌∙◌, subst, add-zero, eq-or-lt_of_le, le_of_suc-le-suc, eq-zero-or-pos, div-lt_iff_lt-mul, div-add-mod'}
use Rattle.std.proofs.Common.{mod-lt, add-one, length-append, length-drop, ext_get_or, get_or-take, get_or-drop, length-take-le, take_all}
use mathlib.Core.List.{List, [], ◌∷◌, ◌++◌, append_assoc, append-nil, map}
use Rattle.std.proofs.Math.Logic.{⊎_elim}
use Rattle.std.proofs.Math.Nat.{mul-one, mul-le-mul_right}
use native.Mathlib.Omega.{arith}
use Rattle.std.proofs.Math.ListN.{length, get_or, get_or-append}
use Rattle.std.proofs.Math.Seq.{get_or-append-add}

-- a fact of each element of a list
abbrev pub Each : {A : Type 0} → (A → Type 0) → List A → Type 0
Each P [] = Unit {0}
Each P (x ∷ xs) = P x × Each P xs

module _ {A : Type 0} where
  -- f 0, then f 1, .., then f (n - 1), one after another
  unfoldable pub blocks : ℕ → (ℕ → List A) → List A
  blocks zero f = []
  blocks (suc n) f = blocks n f ++ f n

  -- the list f 0, f 1, .., f (n - 1)
  unfoldable pub upto : ℕ → (ℕ → A) → List A
  upto n f = blocks n (λ i. f i ∷ [])

  -- the list f c, f (c + 1), .., of k elements: what code that goes through a list has still before it
  unfoldable pub from : (ℕ → A) → ℕ → ℕ → List A
  from f c zero = []
  from f c (suc k) = f c ∷ from f (suc c) k

-- ---- tables of rows of equal width
-- row v of m ends within the table
pub row-end : {v m size : ℕ} (w w' : ℕ) → v < m → w ≡ w' → m * w' ≤ size → v * w + w ≤ size
row-end {v} {m} {size} w w' h e l = rw e (omega (arith, mul-le-mul_right {m = suc v} {n = m} w' h))

-- a fact of every place of a table, by its row and its column
pub by_places : (P : ℕ → Type 0) (m w : ℕ) → ((v q : ℕ) → v < m → q < w → P (v * w + q)) → (i : ℕ) → i < m * w → P i
by_places P m w each i h =
    let z : 0 < w = ⊎_elim (λ (e : w ≡ 0). absurd (omega (arith, ap (λ (x : ℕ). m * x) e))) (λ (l : 0 < w). l) (eq-zero-or-pos w) in
    subst P (div-add-mod' i w) (each (i / w) (i % w) ((div-lt_iff_lt-mul z).1 h) (mod-lt i z))

module _ {A : Type 0} where
  -- ---- blocks
  pub blocks_more : (n : ℕ) (f : ℕ → List A) → blocks (n + 1) f ≡ blocks n f ++ f n
  unfolding blocks
  blocks_more n f = rw (add-one n)

  module _ (w : ℕ) (f : ℕ → List A) (wide : (v : ℕ) → length (f v) ≡ w) where
    pub length-blocks : (n : ℕ) → length (blocks n f) ≡ n * w
    unfolding blocks
    length-blocks zero = omega arith
    length-blocks (suc n) = rw (length-append (blocks n f) (f n)) (omega (arith, length-blocks n, wide n))

    -- place q of block v
    pub get_d_blocks : (n v q : ℕ) (d : A) → v < n → q < w → get_or (blocks n f) (v * w + q) d ≡ get_or (f v) q d
    unfolding blocks
    get_d_blocks zero v q d h l = absurd (omega arith)
    get_d_blocks (suc n) v q d h l =
        ⊎_elim
        (λ (e : v ≡ n).
        let at : v * w + q ≡ length (blocks n f) + q = omega (arith, length-blocks n, ap (λ (x : ℕ). x * w) e) in
        rw (at, get_or-append-add (blocks n f) (f n) q d, e))
        (λ (e : v < n).
        get_or-append (blocks n f) (f n) d (v * w + q) (omega (arith, length-blocks n, mul-le-mul_right {m = suc v} {n = n} w e)) ∙
        get_d_blocks n v q d e l)
        (eq-or-lt_of_le (le_of_suc-le-suc h))

    -- a fact of every place of every block
    pub blocks-each : (P : A → Type 0) (n : ℕ) (d : A) → ((v q : ℕ) → v < n → q < w → P (get_or (f v) q d)) →
        (i : ℕ) → i < n * w → P (get_or (blocks n f) i d)
    blocks-each P n d each =
        by_places (λ (k : ℕ). P (get_or (blocks n f) k d)) n w (λ v q h l. subst P (sym (get_d_blocks n v q d h l)) (each v q h l))

  -- equal blocks
  pub blocks-eq : (n : ℕ) (f g : ℕ → List A) → ((v : ℕ) → v < n → f v ≡ g v) → blocks n f ≡ blocks n g
  unfolding blocks
  blocks-eq zero f g e = refl
  blocks-eq (suc n) f g e = rw (blocks-eq n f g (λ v l. e v (omega arith)), e n (omega arith))

  -- ---- lists by their elements
  pub upto_more : (n : ℕ) (f : ℕ → A) → upto (n + 1) f ≡ upto n f ++ (f n ∷ [])
  unfolding upto
  upto_more n f = blocks_more n (λ i. f i ∷ [])

  pub length-upto : (n : ℕ) (f : ℕ → A) → length (upto n f) ≡ n
  unfolding upto
  length-upto n f = length-blocks 1 (λ i. f i ∷ []) (λ v. refl) n ∙ mul-one n

  pub get_d_upto : (n : ℕ) (f : ℕ → A) (i : ℕ) (d : A) → i < n → get_or (upto n f) i d ≡ f i
  unfolding upto
  get_d_upto n f i d h =
      let at : i ≡ i * 1 + 0 = omega arith in
      ap (λ (k : ℕ). get_or (blocks n (λ i. f i ∷ [])) k d) at ∙ get_d_blocks 1 (λ i. f i ∷ []) (λ v. refl) n i 0 d h (omega arith)

  pub upto-eq : (n : ℕ) (f g : ℕ → A) → ((i : ℕ) → i < n → f i ≡ g i) → upto n f ≡ upto n g
  unfolding upto
  upto-eq n f g e = blocks-eq n (λ i. f i ∷ []) (λ i. g i ∷ []) (λ i l. ap (λ (x : A). x ∷ []) (e i l))

  -- the first k, then n more
  pub upto-split : (k n : ℕ) (f : ℕ → A) → upto (k + n) f ≡ upto k f ++ upto n (λ i. f (k + i))
  unfolding upto blocks
  upto-split k zero f = rw (add-zero k) (sym (append-nil (upto k f)))
  upto-split k (suc n) f =
      let more : k + suc n ≡ suc (k + n) = omega arith in
      let last : List A = f (k + n) ∷ [] in
      rw more (ap (λ (l : List A). l ++ last) (upto-split k n f) ∙ append_assoc (upto k f) (upto n (λ i. f (k + i))) last)

  -- ---- from any place on
  from_snoc : (f : ℕ → A) (c k : ℕ) → from f c (suc k) ≡ from f c k ++ (f (c + k) ∷ [])
  unfolding from
  from_snoc f c zero = rw (add-zero c)
  from_snoc f c (suc k) =
      let e : suc c + k ≡ c + suc k = omega arith in
      ap (λ (l : List A). f c ∷ l) (rw e at (from_snoc f (suc c) k))

  pub upto_from : (n : ℕ) (f : ℕ → A) → upto n f ≡ from f 0 n
  unfolding upto blocks from
  upto_from zero f = refl
  upto_from (suc n) f =
      let e : 0 + n ≡ n = omega arith in
      ap (λ (l : List A). l ++ (f n ∷ [])) (upto_from n f) ∙ sym (rw e at (from_snoc f 0 n))

-- two tables of m rows and w columns are equal if every place is
pub table_ext : {A : Type 0} (d : A) (m w : ℕ) (xs ys : List A) → length xs ≡ m * w → length ys ≡ m * w →
    ((v q : ℕ) → v < m → q < w → get_or xs (v * w + q) d ≡ get_or ys (v * w + q) d) → xs ≡ ys
table_ext d m w xs ys lx ly each =
    ext_get_or d xs ys (lx ∙ sym ly) (λ i h. by_places (λ (k : ℕ). get_or xs k d ≡ get_or ys k d) m w each i (omega (arith, h)))

-- the first n of a list, one by one
pub take-is : {A : Type 0} (d : A) (n : ℕ) (xs : List A) → n ≤ length xs → take n xs ≡ upto n (λ i. get_or xs i d)
take-is d n xs h =
    ext_get_or d (take n xs) (upto n (λ i. get_or xs i d)) (length-take-le n xs h ∙ sym (length-upto n (λ i. get_or xs i d)))
    (λ i l.
    let k : i < n = omega (arith, length-take-le n xs h) in
    get_or-take n xs i d k ∙ sym (get_d_upto n (λ i. get_or xs i d) i d k))

-- a part of a slice: n elements from k on
pub length_part : {A : Type 0} (k size n : ℕ) (xs : List A) → size ≡ n → k + n ≤ length xs → length (take size (drop k xs)) ≡ n
length_part k size n xs e h = length-take-le size (drop k xs) (rw (length-drop k xs) (omega arith)) ∙ e

pub part_at : {A : Type 0} (k size n : ℕ) (xs : List A) (d : A) (i : ℕ) → size ≡ n → i < n →
    get_or (take size (drop k xs)) i d ≡ get_or xs (k + i) d
part_at k size n xs d i e h = get_or-take size (drop k xs) i d (omega arith) ∙ get_or-drop k xs i d

-- the part of a slice from k on
pub rest_is : {A : Type 0} (k : ℕ) (xs : List A) → take (length xs - k) (drop k xs) ≡ drop k xs
rest_is k xs = take_all (length xs - k) (drop k xs) (rw (length-drop k xs) (omega arith))

-- ---- a fact of each element
module _ {A : Type 0} (P : A → Type 0) where
  pub each_append : (xs ys : List A) → Each P xs → Each P ys → Each P (xs ++ ys)
  each_append [] ys p q = q
  each_append (x ∷ xs) ys p q = (p.0, each_append xs ys p.1 q)

  pub each-blocks : (f : ℕ → List A) (n : ℕ) → ((i : ℕ) → i < n → Each P (f i)) → Each P (blocks n f)
  unfolding blocks
  each-blocks f zero g = tt
  each-blocks f (suc n) g = each_append (blocks n f) (f n) (each-blocks f n (λ i l. g i (omega arith))) (g n (omega arith))

  pub each-upto : (f : ℕ → A) (n : ℕ) → ((i : ℕ) → i < n → P (f i)) → Each P (upto n f)
  unfolding upto
  each-upto f n g = each-blocks (λ i. f i ∷ []) n (λ i l. (g i l, tt))

  pub each_take : (n : ℕ) (xs : List A) → Each P xs → Each P (take n xs)
  each_take zero xs p = tt
  each_take (suc n) [] p = tt
  each_take (suc n) (x ∷ xs) p = (p.0, each_take n xs p.1)

  pub each-drop : (n : ℕ) (xs : List A) → Each P xs → Each P (drop n xs)
  each-drop zero xs p = p
  each-drop (suc n) [] p = p
  each-drop (suc n) (x ∷ xs) p = each-drop n xs p.1

  pub each_more : (Q : A → Type 0) (xs : List A) → ((x : A) → P x → Q x) → Each P xs → Each Q xs
  each_more Q [] h p = tt
  each_more Q (x ∷ xs) h p = (h x p.0, each_more Q xs h p.1)

  pub each_map : {B : Type 0} (Q : B → Type 0) (f : A → B) (xs : List A) → ((x : A) → P x → Q (f x)) → Each P xs → Each Q (map f xs)
  each_map Q f [] h p = tt
  each_map Q f (x ∷ xs) h p = (h x p.0, each_map Q f xs h p.1)

-- a fact of each place of a list, and of the places beyond it
module _ {A : Type 0} (P : A → Type 0) (d : A) where
  pub all_set : (xs : List A) (r : ℕ) (x : A) → ((i : ℕ) → P (get_or xs i d)) → P x → (i : ℕ) → P (get_or (set xs r x) i d)
  all_set [] r x a h i = a i
  all_set (y ∷ ys) zero x a h zero = h
  all_set (y ∷ ys) zero x a h (suc i) = a (suc i)
  all_set (y ∷ ys) (suc r) x a h zero = a 0
  all_set (y ∷ ys) (suc r) x a h (suc i) = all_set ys r x (λ i. a (suc i)) h i

  pub all_take : (n : ℕ) (xs : List A) → P d → ((i : ℕ) → P (get_or xs i d)) → (i : ℕ) → P (get_or (take n xs) i d)
  all_take zero xs p a i = p
  all_take (suc n) [] p a i = p
  all_take (suc n) (x ∷ xs) p a zero = a 0
  all_take (suc n) (x ∷ xs) p a (suc i) = all_take n xs p (λ i. a (suc i)) i

  pub all_replicate : (n : ℕ) → P d → (i : ℕ) → P (get_or (replicate n d) i d)
  all_replicate zero p i = p
  all_replicate (suc n) p zero = p
  all_replicate (suc n) p (suc i) = all_replicate n p i

module _ {A B : Type 0} (f : A → B) where
  pub map-set : (xs : List A) (r : ℕ) (x : A) → map f (set xs r x) ≡ set (map f xs) r (f x)
  map-set [] r x = refl
  map-set (y ∷ ys) zero x = refl
  map-set (y ∷ ys) (suc r) x = ap (λ (l : List B). f y ∷ l) (map-set ys r x)

  pub map-take : (n : ℕ) (xs : List A) → map f (take n xs) ≡ take n (map f xs)
  map-take zero xs = refl
  map-take (suc n) [] = refl
  map-take (suc n) (x ∷ xs) = ap (λ (l : List B). f x ∷ l) (map-take n xs)

  pub map-replicate : (n : ℕ) (x : A) → map f (replicate n x) ≡ replicate n (f x)
  map-replicate zero x = refl
  map-replicate (suc n) x = ap (λ (l : List B). f x ∷ l) (map-replicate n x)
