-- How long the translation is: within the limit of a program, for every matrix within its own; and its bytes. Assumes nothing.
use Prim.Native.Nat.{ℕ, zero, suc, ◌+◌, ◌*◌, ◌-◌, ◌/◌, ◌%◌, ◌^◌, ◌≤◌, ◌<◌, min}
use Rattle.std.specs.Prelude.{◌≡◌, List, [], ◌∷◌, ◌++◌}
use Rattle.std.proofs.Math.Path.{refl, ap}
use Rattle.std.proofs.Common.{sym, ◌∙◌, ⊎_elim, eq-or-lt_of_le, le_of_suc-le-suc, length-append, shr-shr}
use Rattle.std.proofs.Math.Nat.{pow-succ'}
use native.Mathlib.Omega.{arith}
use Rattle.std.specs.Int.Count as Count
use Rattle.std.proofs.Math.ListN.{length}
use Rattle.laws.specs.Sums.{sum_to, sum-front, sum-pairs, sum_plus, sum-times, sum_same, sum-eq, sum_mono, sum-le}
use Rattle.laws.specs.Lists.{blocks, length-blocks, Each, each-blocks}
use Rattle.files.specs.Matrix.{ones_in}
use Rattle.programs.specs.Instructions.{length_of}
use Rattle.programs.specs.declared.description.Instruction.{Instruction}
use Rattle.compiler.specs.Translation.{clear, begin, apart, if_set, spell, mark, marks, carry, keep, tell, end}
use Rattle.compiler.specs.Translation.{live_before, column, translation_of}
use Rattle.compiler.specs.Room.{live-le}
use Rattle.compiler.specs.Ranges.{each-marks}

-- the set bits among the k low bits of v
unfoldable pub ones : ℕ → ℕ → ℕ
ones k v = sum_to k (λ t. v / 2 ^ t % 2)

-- the bytes that instructions take
abbrev pub size : List Instruction → ℕ
size [] = 0
size (i ∷ is) = length_of i + size is

-- ---- sums and lengths
pub blocks-sum : {A : Type 0} (n : ℕ) (f : ℕ → List A) → length (blocks n f) ≡ sum_to n (λ i. length (f i))
unfolding blocks sum_to
blocks-sum zero f = refl
blocks-sum (suc n) f = omega (arith, length-append (blocks n f) (f n), blocks-sum n f)

sum_up_to : (n k : ℕ) (f : ℕ → ℕ) → n ≤ k → sum_to n f ≤ sum_to k f
unfolding sum_to
sum_up_to n zero f h =
    let e : n ≡ 0 = omega arith in
    rw e (omega arith)
sum_up_to n (suc k) f h =
    ⊎_elim
    (λ (q : n ≡ suc k). rw q (omega arith))
    (λ (q : n < suc k). omega (arith, sum_up_to n k f (le_of_suc-le-suc q)))
    (eq-or-lt_of_le h)

-- ---- the instructions of each part
if_length : (b : ℕ) (is : List Instruction) → length (if_set b is) ≡ min b 1 * length is
unfolding if_set
if_length zero is = omega arith
if_length (suc b) is =
    let e : min (suc b) 1 ≡ 1 = omega arith in
    rw e (omega arith)

pub bit-times : (b x : ℕ) → b < 2 → b * x ≤ x
bit-times zero x h = omega arith
bit-times (suc zero) x h = omega arith
bit-times (suc (suc b)) x h = absurd (omega arith)

module _ (k m : ℕ) where
  mark-length : (v j : ℕ) → length (mark k m v j) ≡ 1 + ones k v
  unfolding ones
  mark-length v j =
      omega (
        arith,
        blocks-sum k (spell k m v j),
        sum-eq k (λ t. length (spell k m v j t)) (λ t. v / 2 ^ t % 2)
            (λ t l. if_length (v / 2 ^ t % 2) _ ∙ omega arith),
      )

  -- as many as the set rows take
  marks-length : (bits : ℕ → ℕ) (r j : ℕ) → length (marks k m bits r j) ≡ sum_to r (λ v. min (bits v) 1 * (1 + ones k v))
  unfolding marks sum_to
  marks-length bits zero j = refl
  marks-length bits (suc r) j =
      simp (length-append, if_length)
      (omega (arith, ap (λ (x : ℕ). min (bits r) 1 * x) (mark-length r j), marks-length bits r (j + bits r)))

  pub column-length : (bit : ℕ → ℕ → ℕ) (c : ℕ) →
      length (column k m bit c) ≡
      2 + 2 * live_before bit m c + length (marks k m (λ v. bit v c) m 0) + live_before bit m (suc c)
  unfolding column
  column-length bit c =
      simp (length-append, length-blocks 2 (apart k m) (λ i. refl), length-blocks 1 (carry k m (ones_in bit m c)) (λ i. refl))
      (omega arith)

  column-short : (bit : ℕ → ℕ → ℕ) (c : ℕ) → 1 ≤ m → length (column k m bit c) ≤ 2 + 3 * m + sum_to m (λ v. 1 + ones k v)
  column-short bit c h =
      omega (
        arith,
        column-length bit c,
        marks-length (λ v. bit v c) m 0,
        sum_mono m (λ v. min (bit v c) 1 * (1 + ones k v)) (λ v. 1 + ones k v) (λ v l. bit-times (min (bit v c) 1) _ (omega arith)),
        live-le bit m c h,
        live-le bit m (suc c) h,
      )

  pub whole_length : (n : ℕ) (bit : ℕ → ℕ → ℕ) →
      length (translation_of k m n bit) ≡ 3 + 2 * k + length (blocks n (column k m bit))
  whole_length n bit = simp (length-append, length-blocks 1 clear (λ t. refl), length-blocks 1 tell (λ t. refl)) (omega arith)

-- ---- the set bits of all numbers of k bits
-- one more bit, from the low end
ones_low : (k v : ℕ) → ones (suc k) v ≡ v % 2 + ones k (v / 2)
unfolding ones
ones_low k v =
    omega (
      arith,
      sum-front k (λ t. v / 2 ^ t % 2),
      sum-eq k (λ t. v / 2 ^ suc t % 2) (λ t. v / 2 / 2 ^ t % 2) (λ t l. halved t),
    )
  where
    halved : (t : ℕ) → v / 2 ^ suc t % 2 ≡ v / 2 / 2 ^ t % 2
    halved t = ap (λ (x : ℕ). x % 2) (sym (shr-shr v 1 t ∙ ap (λ (i : ℕ). v / 2 ^ i) (omega arith)))

ones_pair : (k v : ℕ) → ones (suc k) (2 * v + 0) + ones (suc k) (2 * v + 1) ≡ 1 + ones k v * 2
ones_pair k v =
    let a : (2 * v + 0) / 2 ≡ v = omega arith in
    let b : (2 * v + 1) / 2 ≡ v = omega arith in
    omega (arith, ones_low k (2 * v + 0), ones_low k (2 * v + 1), ap (ones k) a, ap (ones k) b)

doubled : (k : ℕ) → k * 2 ^ (k - 1) * 2 ≡ k * 2 ^ k
doubled zero = refl
doubled (suc k) =
    let e : suc k - 1 ≡ k = omega arith in
    rw (e, pow-succ' 2 k) (omega arith)

pub all_ones : (k : ℕ) → sum_to (2 ^ k) (λ v. ones k v) ≡ k * 2 ^ (k - 1)
unfolding ones sum_to
all_ones zero = refl
all_ones (suc k) =
    let e : suc k - 1 ≡ k = omega arith in
    rw (e, pow-succ' 2 k)
    (omega (
      arith,
      sum-pairs (2 ^ k) (λ v. ones (suc k) v),
      sum-eq (2 ^ k) (λ v. ones (suc k) (2 * v + 0) + ones (suc k) (2 * v + 1)) (λ v. 1 + ones k v * 2) (λ v l. ones_pair k v),
      sum_plus (2 ^ k) (λ v. 1 + ones k v * 2) (λ v. 1) (λ v. ones k v * 2) (λ v. refl),
      sum_same (2 ^ k) 1 (λ v. 1) (λ v. refl),
      sum-times (2 ^ k) (ones k) 2,
      all_ones k,
      doubled k,
    ))

-- those of a number of k bits are all of its own
ones-are : (k v : ℕ) → v < 2 ^ k → ones k v ≡ Count.ones v
unfolding ones sum_to Count.ones Count.ones_in
ones-are zero v h =
    let e : v ≡ 0 = omega arith in
    rw e
ones-are (suc k) v h =
    let l : v / 2 < 2 ^ k = omega (arith, rw (pow-succ' 2 k) at h) in
    omega (arith, ones_low k v, ones-are k (v / 2) l, Count.ones_step v)

-- the marks of rows whose numbers have k bits, as code counts them
pub marks-count : (k m : ℕ) (bits : ℕ → ℕ) (r : ℕ) → ((v : ℕ) → v < r → bits v ≤ 1) → ((v : ℕ) → v < r → v < 2 ^ k) →
    length (marks k m bits r 0) ≡ sum_to r (λ v. bits v * (1 + Count.ones v))
marks-count k m bits r ok small =
    marks-length k m bits r 0 ∙
    sum-eq r (λ v. min (bits v) 1 * (1 + ones k v)) (λ v. bits v * (1 + Count.ones v))
    (λ v l. let e : min (bits v) 1 ≡ bits v = omega (arith, ok v l) in rw (e, ones-are k v (small v l)))

-- ---- the limit: 7 bits for each of 128 rows would be too many, but together they have 7 × 64 set bits
few_ones : (k m : ℕ) → k ≤ 7 → m ≤ 128 → sum_to m (λ v. 1 + ones k v) ≤ 576
unfolding ones
few_ones k m h l =
    omega (
      arith,
      sum_mono m (λ v. 1 + ones k v) (λ v. 1 + ones 7 v) (λ v a. omega (arith, sum_up_to k 7 (λ t. v / 2 ^ t % 2) h)),
      sum_up_to m 128 (λ v. 1 + ones 7 v) l,
      sum_plus 128 (λ v. 1 + ones 7 v) (λ v. 1) (λ v. ones 7 v) (λ v. refl),
      sum_same 128 1 (λ v. 1) (λ v. refl),
      all_ones 7,
    )

-- at most 962 instructions a column and 17 more, for every number of columns
pub short : (k m n : ℕ) (bit : ℕ → ℕ → ℕ) → k ≤ 7 → 1 ≤ m → m ≤ 128 →
    length (begin k ++ blocks n (column k m bit) ++ end k) ≤ 962 * n + 17
short k m n bit h a b =
    omega (
      arith,
      whole_length k m n bit,
      blocks-sum n (column k m bit),
      sum-le n 962 (λ c. length (column k m bit c)) (λ c l. omega (arith, column-short k m bit c a, few_ones k m h b)),
    )

-- ---- bytes
pub size-append : (is js : List Instruction) → size (is ++ js) ≡ size is + size js
size-append [] js = omega arith
size-append (i ∷ is) js = omega (arith, size-append is js)

-- n parts of w bytes
size-blocks : (w : ℕ) (f : ℕ → List Instruction) → ((i : ℕ) → size (f i) ≡ w) → (n : ℕ) → size (blocks n f) ≡ n * w
unfolding blocks
size-blocks w f e zero = omega arith
size-blocks w f e (suc n) = omega (arith, size-append (blocks n f) (f n), size-blocks w f e n, e n)

-- each instruction of a column takes ten, but for its first two, INPUT and NOT, which take eight
abbrev Ten : Instruction → Type 0
Ten i = length_of i ≡ 10

tens : (is : List Instruction) → Each Ten is → size is ≡ 10 * length is
tens [] e = refl
tens (i ∷ is) e = omega (arith, e.0, tens is e.1)

module _ (k m : ℕ) (bit : ℕ → ℕ → ℕ) where
  column-size : (c : ℕ) → size (column k m bit c) + 4 ≡ 10 * length (column k m bit c)
  unfolding column
  column-size c =
      let h : ℕ = live_before bit m c in
      let w : ℕ = ones_in bit m c in
      let g : ℕ = live_before bit m (suc c) in
      simp (size-append, length-append)
      (omega (
        arith,
        tens (blocks h (apart k m)) (each-blocks Ten (apart k m) h (λ i l. (refl, (refl, tt)))),
        tens (marks k m (λ v. bit v c) m 0)
            (each-marks Ten k m (sum_to m (λ v. bit v c) + 0) (λ j l. (refl, (λ t u. refl))) (λ v. bit v c) m 0 (omega arith)),
        tens (keep k m w g) (each-blocks Ten (carry k m w) g (λ i l. (refl, tt))),
      ))

  columns-size : (n : ℕ) → size (blocks n (column k m bit)) + 4 * n ≡ 10 * length (blocks n (column k m bit))
  unfolding blocks
  columns-size zero = omega arith
  columns-size (suc n) = simp (size-append, length-append) (omega (arith, columns-size n, column-size n))

  pub whole-size : (n : ℕ) →
      size (translation_of k m n bit) ≡ size (begin k) + size (blocks n (column k m bit)) + size (end k)
  whole-size n = simp size-append (omega arith)

  -- all of it, where the columns are `count` instructions
  pub whole_bytes : (n count : ℕ) → count ≡ length (blocks n (column k m bit)) →
      (4 * n ≤ 10 * count) × (6 * (2 + k) + 10 * count - 4 * n + 8 * (1 + k) ≡ size (translation_of k m n bit))
  whole_bytes n count e =
      let c : 10 * count ≡ size (blocks n (column k m bit)) + 4 * n = omega (arith, columns-size n) in
      (omega arith, omega (arith, whole-size n, size-blocks 6 clear (λ t. refl) k, size-blocks 8 tell (λ t. refl) k))
