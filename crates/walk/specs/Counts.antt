-- How many strings hit each row, for any weight on what is drawn. Assumes nothing.
use Prim.Native.Nat.{ℕ, zero, suc, ◌+◌, ◌-◌, ◌*◌, ◌^◌, ◌≤◌, ◌<◌}
use Rattle.std.specs.Prelude.{◌≡◌, ◌∷◌, ◌≢◌, eqb}
use Rattle.std.proofs.Math.Path.{refl, ap, fun_ext}
use Rattle.std.proofs.Common.{◌∙◌, ⊎_elim, zero-add, eq-or-lt_of_le, le_of_suc-le-suc}
use native.Mathlib.Omega.{arith}
use Rattle.laws.specs.Sums.{sum_to, sum-front, sum-pairs, sum_plus, sum_same, sum-times}
use Rattle.laws.specs.Digits.{number}
use Rattle.files.specs.Matrix.{ones_in}
use Rattle.files.specs.Live.{total_from, total_step, go_on}
use Rattle.walk.specs.Walk.{Drawn, hit, miss, Place, found, left, at, scan, then, walk, used, hits, misses}
use Rattle.walk.specs.Strings.{strings, strings-many, over, over-same, over-strings, one_if}

-- ---- one row and one column
-- a row, over the distances below b + n: 0 is hit where b is 1, and the others are one less
at_sum : (b row n : ℕ) (go : ℕ → Place) (f : Place → ℕ) → b ≤ 1 →
    sum_to (b + n) (λ d. f (at b row d go)) ≡ b * f (found row) + sum_to n (λ d. f (go d))
unfolding at
at_sum zero row n go f h = rw zero-add (omega arith)
at_sum (suc zero) row n go f h =
    let e : suc zero + n ≡ suc n = omega arith in
    rw e (omega (arith, sum-front n (λ d. f (at 1 row d go))))
at_sum (suc (suc b)) row n go f h = absurd (omega arith)

-- a column: of the distances below its ones and x more, one hits each set row, and those below x are left
pub scan_sum : (column : ℕ → ℕ) (r x : ℕ) (f : Place → ℕ) → ((v : ℕ) → v < r → column v ≤ 1) →
    sum_to (sum_to r column + x) (λ d. f (scan column r d)) ≡ sum_to r (λ v. column v * f (found v)) + sum_to x (λ d. f (left d))
unfolding scan sum_to
scan_sum column zero x f ok = rw (zero-add x) (omega arith)
scan_sum column (suc r) x f ok =
    let e : column r + sum_to r column + x ≡ column r + (sum_to r column + x) = omega arith in
    rw e (omega (
      arith,
      at_sum (column r) r (sum_to r column + x) (λ d. scan column r d) f (ok r (omega arith)),
      scan_sum column r x f (λ v l. ok v (omega arith)),
    ))

-- ---- all strings, over the distances below h
-- what is drawn weighs f of its row and column, or `missed`
unfoldable pub weigh : (ℕ → ℕ → ℕ) → ℕ → Drawn → ℕ
weigh f missed (hit row column) = f row column
weigh f missed miss = missed

-- the ones of k columns from column c on: each weighs in for all strings of the columns after it
unfoldable pub ones_weigh : (ℕ → ℕ → ℕ) → ℕ → (ℕ → ℕ → ℕ) → ℕ → ℕ → ℕ
ones_weigh bit m f c zero = 0
ones_weigh bit m f c (suc k) = sum_to m (λ v. bit v c * (2 ^ k * f v c)) + ones_weigh bit m f (suc c) k

module _ (bit : ℕ → ℕ → ℕ) (m : ℕ) (f : ℕ → ℕ → ℕ) (missed : ℕ) where
  -- the walks from column c on at distance d, weighed over the strings of k columns
  abbrev pub weighed : ℕ → ℕ → ℕ → ℕ
  weighed k c d = over (strings k) (λ s. weigh f missed (walk bit m c d s))

  -- what a column leaves, weighed over the strings of the k columns after it
  after : ℕ → ℕ → Place → ℕ
  after k c (found row) = 2 ^ k * f row c
  after k c (left d) = weighed k (suc c) d

  after_is : (k c : ℕ) (o : Place) → over (strings k) (λ s. weigh f missed (then c o (λ e. walk bit m (suc c) e s))) ≡ after k c o
  unfolding after then weigh
  after_is k c (found row) = over-same (f row c) (strings k) ∙ ap (λ (n : ℕ). n * f row c) (strings-many k)
  after_is k c (left d) = refl

  -- a first column and one bit
  first_bit : (k c d b : ℕ) →
      over (strings k) (λ s. weigh f missed (walk bit m c d (b ∷ s))) ≡ after k c (scan (λ v. bit v c) m (2 * d + b))
  unfolding walk
  first_bit k c d b = after_is k c (scan (λ v. bit v c) m (2 * d + b))

  first-column : (k c h : ℕ) → sum_to h (weighed (suc k) c) ≡ sum_to (2 * h) (λ d. after k c (scan (λ v. bit v c) m d))
  first-column k c h =
      ap (sum_to h)
      (fun_ext
      (λ d. over-strings k (λ s. weigh f missed (walk bit m c d s)) ∙ rw (first_bit k c d 0, first_bit k c d 1))) ∙
      sum-pairs h (λ d. after k c (scan (λ v. bit v c) m d))

  step : (k c h s x : ℕ) → ((v : ℕ) → v < m → bit v c ≤ 1) → ones_in bit m c + x ≡ 2 * h →
      sum_to x (weighed k (suc c)) ≡ ones_weigh bit m f (suc c) k + s * missed →
      sum_to h (weighed (suc k) c) ≡ ones_weigh bit m f c (suc k) + s * missed
  unfolding ones_in ones_weigh after
  step k c h s x ok e ih = first-column k c h ∙ rw (← e) (omega (arith, scan_sum (λ v. bit v c) m x (after k c) ok, ih))

  -- h distances before k columns that have room for them: the ones weigh in, and s strings miss
  pub walks : (k c h s : ℕ) → ((v i : ℕ) → v < m → c ≤ i → i < c + k → bit v i ≤ 1) → h * 2 ^ k ≡ total_from bit m c k + s →
      sum_to h (weighed k c) ≡ ones_weigh bit m f c k + s * missed
  unfolding strings over walk number total_from weigh ones_weigh
  walks zero c h s ok e =
      let z : sum_to m (λ v. 0) ≡ m * 0 = sum_same m 0 (λ v. 0) (λ v. refl) in
      let eq : h ≡ s = omega arith in
      omega (arith, sum_same h (missed + 0) (λ d. missed + 0) (λ d. refl), ap (λ (y : ℕ). y * missed) eq)
  walks (suc k) c h s ok e =
      let x = go_on (ones_in bit m c) h (total_from bit m (suc c) k) k s (omega (arith, total_step bit m c k)) in
      step k c h s x.0 (λ v l. ok v c l (omega arith) (omega arith)) x.1
      (walks k (suc c) x.0 s (λ v i l a b. ok v i l (omega arith) (omega arith)) x.2)

-- ---- the ones, where the weight is the row's: each row weighs in as often as its number says
pub by_rows : (bit : ℕ → ℕ → ℕ) (m : ℕ) (f : ℕ → ℕ) (c k : ℕ) →
    ones_weigh bit m (λ v i. f v) c k ≡ sum_to m (λ v. number (bit v) c k * f v)
unfolding ones_weigh number
by_rows bit m f c zero = omega (arith, sum_same m 0 (λ v. 0 * f v) (λ v. omega arith))
by_rows bit m f c (suc k) =
    let now : ℕ → ℕ = λ v. bit v c * (2 ^ k * f v) in
    let later : ℕ → ℕ = λ v. number (bit v) (suc c) k * f v in
    omega (
      arith,
      by_rows bit m f (suc c) k,
      sum_plus m (λ v. (bit v c * 2 ^ k + number (bit v) (suc c) k) * f v) now later (λ v. omega arith),
    )

-- ---- and where it is the column's: each column weighs in with its ones
front : (k x : ℕ) (f g : ℕ → ℕ) → x ≡ f 0 → ((i : ℕ) → g i ≡ f (suc i)) → x + sum_to k g ≡ sum_to (suc k) f
front k x f g e s = omega (arith, sum-front k f, e, ap (sum_to k) (fun_ext s))

module _ (bit : ℕ → ℕ → ℕ) (m : ℕ) (g : ℕ → ℕ) where
  -- column c + i of the k columns from c on
  abbrev column : ℕ → ℕ → ℕ → ℕ
  column c k i = ones_in bit m (c + i) * (2 ^ (k - 1 - i) * g (c + i))

  column-first : (c k : ℕ) → sum_to m (λ v. bit v c * (2 ^ k * g c)) ≡ column c (suc k) 0
  unfolding ones_in
  column-first c k =
      let z : c + 0 ≡ c = omega arith in
      let q : suc k - 1 - 0 ≡ k = omega arith in
      rw (z, q) (sum-times m (λ v. bit v c) (2 ^ k * g c))

  column-next : (c k i : ℕ) → column (suc c) k i ≡ column c (suc k) (suc i)
  column-next c k i =
      let z : c + suc i ≡ suc c + i = omega arith in
      let q : suc k - 1 - suc i ≡ k - 1 - i = omega arith in
      rw (z, q)

  pub by_columns : (c k : ℕ) → ones_weigh bit m (λ v i. g i) c k ≡ sum_to k (column c k)
  unfolding ones_weigh sum_to
  by_columns c zero = refl
  by_columns c (suc k) =
      ap (λ (y : ℕ). sum_to m (λ v. bit v c * (2 ^ k * g c)) + y) (by_columns (suc c) k) ∙
      front k (sum_to m (λ v. bit v c * (2 ^ k * g c))) (column c (suc k)) (column (suc c) k) (column-first c k) (column-next c k)

-- ---- tests as weights
pub hits-weigh : (v : ℕ) (r : Drawn) → one_if (hits v r) ≡ weigh (λ u c. one_if (eqb u v)) 0 r
unfolding hits weigh
hits-weigh v (hit u c) = refl
hits-weigh v miss = refl

pub misses-weigh : (r : Drawn) → one_if (misses r) ≡ weigh (λ u c. 0) 1 r
unfolding misses weigh
misses-weigh (hit v c) = refl
misses-weigh miss = refl

-- and the columns used as one
pub used-weigh : (n : ℕ) (r : Drawn) → used n r ≡ weigh (λ v c. c + 1) n r
unfolding used weigh
used-weigh n (hit v c) = refl
used-weigh n miss = refl

-- a sum in which only v counts
pub sum-none : (n : ℕ) (g y : ℕ → ℕ) → ((i : ℕ) → i < n → y i ≡ 0) → sum_to n (λ i. g i * y i) ≡ 0
unfolding sum_to
sum-none zero g y e = refl
sum-none (suc n) g y e = omega (arith, ap (λ (t : ℕ). g n * t) (e n (omega arith)), sum-none n g y (λ i l. e i (omega arith)))

pub sum_one : (n v : ℕ) (g y : ℕ → ℕ) → y v ≡ 1 → ((i : ℕ) → i ≢ v → y i ≡ 0) → v < n → sum_to n (λ i. g i * y i) ≡ g v
unfolding sum_to
sum_one zero v g y o e h = absurd (omega arith)
sum_one (suc n) v g y o e h =
    ⊎_elim
    (λ (q : v ≡ n). rw (← q) (omega (arith, ap (λ (t : ℕ). g v * t) o, sum-none v g y (λ i l. e i (omega arith)))))
    (λ (l : v < n). omega (arith, ap (λ (t : ℕ). g n * t) (e n (omega arith)), sum_one n v g y o e l))
    (eq-or-lt_of_le (le_of_suc-le-suc h))
