-- What holds of every walk, for every number of rows and columns: of matrices first, then of matrix files and packed strings.
-- Assumes nothing.
use Prim.Native.Nat.{ℕ, ◌+◌, ◌-◌, ◌*◌, ◌^◌, ◌≤◌, ◌<◌}
use Rattle.std.specs.Prelude.{◌≡◌, refl, Bool, false, List, ◌++◌, ◌↔◌, eqb, length}
use Rattle.std.proofs.Common.{sym, ◌∙◌, subst, zero-add, eq-eqb, ne_eqb}
use Rattle.std.proofs.Math.Path.{ap, fun_ext}
use native.Mathlib.Omega.{arith}
use Rattle.laws.specs.Sums.{sum_to, sum-eq}
use Rattle.laws.specs.Digits.{number, digits_of}
use Rattle.laws.specs.Lists.{upto, length-upto, get_d_upto, upto-eq}
use Rattle.laws.specs.Outcome.{Outcome, refused, gives, gives_inj, then-gives}
use Rattle.fields.specs.Fields.{width, bit_of}
use Rattle.files.specs.Matrix.{Matrix, Accepted, bit, p, total, ones_in}
use Rattle.files.specs.Matrices.{equal_bits}
use Rattle.files.specs.Files.{matrix_of}
use Rattle.files.specs.Live.{total_from}
use Rattle.files.specs.RoundTrip.{accepted-bits, read_accepted}
use Rattle.fields.specs.Strings.{strings_of}
use Rattle.walk.specs.Walk.{Drawn, hit, drawn, used, Answer, sample, missed, answer_of, Spending, spending_of}
use Rattle.walk.specs.Walk.{walk_under, walk_of, is_row, is_miss}
use Rattle.walk.specs.Walk.{hits, misses}
use Rattle.walk.specs.Steps.{Inside, walk_inside}
use Rattle.walk.specs.Used.{drawn-used, drawn_unread, told-hit, told_miss}
use Rattle.walk.specs.Strings.{Bits, strings, over, one_if, count, over-bits, count-eq}
use Rattle.walk.specs.Packed.{packed_string, packed_string-sound, packed_string-bits, bit-front, string-front}
use Rattle.walk.specs.Counts.{weigh, ones_weigh, walks, by_rows, by_columns, hits-weigh, misses-weigh, used-weigh, sum-none, sum_one}

-- the columns that all 2^n strings use together: each 1 in column c is hit by 2^(n-1-c) strings, which use c + 1 columns, and each of the
-- 2^n - T strings that miss uses n
abbrev pub all_use : Matrix → ℕ
all_use M =
    sum_to M.columns (λ c. ones_in (bit M) M.rows c * (2 ^ (M.columns - 1 - c) * (c + 1))) + (2 ^ M.columns - total M) * M.columns

-- ---- 1. the counts
module _ (M : Matrix) (a : Accepted M) where
  -- any weight on rows and columns and on a miss, over all strings
  drawn-sum : (f : ℕ → ℕ → ℕ) (x : ℕ) →
      over (strings M.columns) (λ s. weigh f x (drawn M s)) ≡
      ones_weigh (bit M) M.rows f 0 M.columns + (2 ^ M.columns - total M) * x
  unfolding drawn p total total_from sum_to
  drawn-sum f x =
      omega (
        arith,
        walks (bit M) M.rows f x M.columns 0 1 (2 ^ M.columns - total M)
            (λ v i l b k. accepted-bits M a v i l (omega arith)) (omega (arith, a.sum)),
      )

  -- one on rows
  row-sum : (f : ℕ → ℕ) (x : ℕ) →
      over (strings M.columns) (λ s. weigh (λ v c. f v) x (drawn M s)) ≡
      sum_to M.rows (λ v. p M v * f v) + (2 ^ M.columns - total M) * x
  unfolding p
  row-sum f x = omega (arith, drawn-sum (λ v c. f v) x, by_rows (bit M) M.rows f 0 M.columns)

  -- of the 2^n strings exactly p_v hit row v
  pub hits-row : (v : ℕ) → v < M.rows → count (λ s. hits v (drawn M s)) (strings M.columns) ≡ p M v
  unfolding count
  hits-row v h =
      ap (over (strings M.columns)) (fun_ext (λ s. hits-weigh v (drawn M s))) ∙
      omega (
        arith,
        row-sum (λ u. one_if (eqb u v)) 0,
        sum_one M.rows v (p M) (λ u. one_if (eqb u v)) (ap one_if (eq-eqb v v refl)) (λ u ne. ap one_if (ne_eqb u v ne)) h,
      )

  -- exactly 2^n - T miss
  pub misses-rest : count (λ s. misses (drawn M s)) (strings M.columns) ≡ 2 ^ M.columns - total M
  unfolding count
  misses-rest =
      ap (over (strings M.columns)) (fun_ext (λ s. misses-weigh (drawn M s))) ∙
      omega (arith, row-sum (λ u. 0) 1, sum-none M.rows (p M) (λ u. 0) (λ u l. refl))

  -- all 2^n strings together use what the columns say
  pub used_by_all : over (strings M.columns) (λ s. used M.columns (drawn M s)) ≡ all_use M
  used_by_all =
      let n : ℕ = M.columns in
      let term : ℕ → ℕ → ℕ = λ i c. ones_in (bit M) M.rows c * (2 ^ (n - 1 - i) * (c + 1)) in
      ap (over (strings n)) (fun_ext (λ s. used-weigh n (drawn M s))) ∙
      omega (
        arith,
        drawn-sum (λ v c. c + 1) n,
        by_columns (bit M) M.rows (λ c. c + 1) 0 n,
        sum-eq n (λ i. term i (0 + i)) (λ i. term i i) (λ i l. ap (term i) (zero-add i)),
      )

-- a hit lies in one of the columns walked, in a row below m that has a 1 there
hit-at : (M : Matrix) (s : List ℕ) (v c : ℕ) → drawn M s ≡ hit v c → Inside (bit M) M.rows 0 (0 + length s) (hit v c)
unfolding drawn
hit-at M s v c e = subst (Inside (bit M) M.rows 0 (0 + length s)) e (walk_inside (bit M) M.rows 0 0 s)

-- no other number is ever given, and a hit lies in one of the columns walked
pub hit-inside : (M : Matrix) (s : List ℕ) (v c : ℕ) → drawn M s ≡ hit v c → (v < M.rows) × (c < length s)
hit-inside M s v c e =
    let i = hit-at M s v c e in
    (i.0, omega (arith, i.2))

-- a row is hit only where it has a 1
pub hit-set : (M : Matrix) (s : List ℕ) (v c : ℕ) → drawn M s ≡ hit v c → 0 < bit M v c
hit-set M s v c e = (hit-at M s v c e).3

-- ---- 2. matrices with equal m and n are equal exactly when all p_v are
module _ (A B : Matrix) (a : Accepted A) (b : Accepted B) (m : A.rows ≡ B.rows) (n : A.columns ≡ B.columns) where
  same_bits : ((v : ℕ) → v < A.rows → p A v ≡ p B v) → (v c : ℕ) → v < A.rows → c < A.columns → bit A v c ≡ bit B v c
  unfolding p
  same_bits e v c h l =
      digits_of (bit A v) (bit B v) A.columns 0 (λ i x y. accepted-bits A a v i h (omega arith))
      (λ i x y. accepted-bits B b v i (omega arith) (omega arith)) (e v h ∙ ap (number (bit B v) 0) (sym n)) c (omega arith) (omega arith)

  pub equal_rows : (A ≡ B) ↔ ((v : ℕ) → v < A.rows → p A v ≡ p B v)
  equal_rows = ((λ e v h. ap (λ (M : Matrix). p M v) e), (λ e. equal_bits A B a.whole b.whole m n (same_bits e)))

-- ---- matrix files
-- whether what is told of a walk has an answer that passes the test
abbrev pub gives_that : (Answer → Bool) → Outcome Spending → Bool
gives_that test (refused n) = false
gives_that test (gives w) = test w.answer

-- the columns that a walk tells to have used
abbrev pub used_in : Outcome Spending → ℕ
used_in (refused n) = 0
used_in (gives w) = w.used

module _ (file : List ℕ) (M : Matrix) (e : matrix_of file ≡ gives M) where
  -- what is told of the walk of M on a string
  abbrev told_of : List ℕ → Spending
  told_of s = spending_of M.columns (drawn M s)

  -- the walk of the file on a string that is sound is the walk of its matrix on the string's first n bits
  pub walk_is : (string : List ℕ) → strings_of 1 M.columns string ≡ gives tt →
      walk_of file string ≡ gives (told_of (upto M.columns (bit_of string 0)))
  unfolding walk_under
  walk_is string s = rw (e, s)

  pub walk_packed : (s : List ℕ) → Bits M.columns s → walk_of file (packed_string M.columns s) ≡ gives (told_of s)
  walk_packed s b =
      let a = read_accepted file M e in
      walk_is (packed_string M.columns s) (packed_string-sound M.columns s b a.some_columns a.few_columns) ∙
      ap (λ (l : List ℕ). gives (told_of l)) (packed_string-bits M.columns s b)

  -- how many strings, packed, have an answer that passes the test
  file-count : (test : Answer → Bool) →
      count (λ s. gives_that test (walk_of file (packed_string M.columns s))) (strings M.columns) ≡
      count (λ s. test (answer_of (drawn M s))) (strings M.columns)
  file-count test =
      count-eq M.columns (λ s. gives_that test (walk_of file (packed_string M.columns s))) (λ s. test (answer_of (drawn M s)))
      (λ s b. ap (gives_that test) (walk_packed s b))

  -- 1. of the 2^n strings, packed, exactly p_v hit row v
  pub file-hits : (v : ℕ) → v < M.rows →
      count (λ s. gives_that (is_row v) (walk_of file (packed_string M.columns s))) (strings M.columns) ≡ p M v
  unfolding hits
  file-hits v h = file-count (is_row v) ∙ hits-row M (read_accepted file M e) v h

  -- 1. exactly 2^n - T miss
  pub file-misses :
      count (λ s. gives_that is_miss (walk_of file (packed_string M.columns s))) (strings M.columns) ≡ 2 ^ M.columns - total M
  unfolding misses
  file-misses = file-count is_miss ∙ misses-rest M (read_accepted file M e)

  -- what all strings, packed, use together
  pub file-used_by_all : over (strings M.columns) (λ s. used_in (walk_of file (packed_string M.columns s))) ≡ all_use M
  file-used_by_all =
      over-bits M.columns (λ s. used_in (walk_of file (packed_string M.columns s))) (λ s. used M.columns (drawn M s))
      (λ s b. ap used_in (walk_packed s b)) ∙
      used_by_all M (read_accepted file M e)

  -- 3. bytes whose first n bits agree give one answer, where both are sound
  pub file-first-bits : (a b : List ℕ) → strings_of 1 M.columns a ≡ gives tt → strings_of 1 M.columns b ≡ gives tt →
      ((i : ℕ) → i < M.columns → bit_of a 0 i ≡ bit_of b 0 i) → walk_of file a ≡ walk_of file b
  file-first-bits a b s t h =
      walk_is a s ∙ (ap (λ (l : List ℕ). gives (told_of l)) (upto-eq M.columns (bit_of a 0) (bit_of b 0) h) ∙ sym (walk_is b t))

  -- 3. and bytes beyond those that n bits take do not count
  pub file-front : (bytes more : List ℕ) → width M.columns ≤ length bytes → walk_of file (bytes ++ more) ≡ walk_of file bytes
  unfolding walk_under
  file-front bytes more l =
      let n : ℕ = M.columns in
      let b : upto n (bit_of (bytes ++ more) 0) ≡ upto n (bit_of bytes 0) =
      upto-eq n (bit_of (bytes ++ more) 0) (bit_of bytes 0) (λ i h. bit-front n bytes more l i (omega arith)) in
      rw (e, string-front M.columns bytes more l, b)

  -- what is told of a walk, whatever the string
  module _ (string : List ℕ) (w : Spending) (g : walk_of file string ≡ gives w) where
    -- the bits that it takes
    abbrev bits : List ℕ
    bits = upto M.columns (bit_of string 0)

    -- it is what is told of the walk of M on the string's first n bits
    file-told : told_of bits ≡ w
    unfolding walk_under
    file-told = gives_inj (then-gives (strings_of 1 M.columns string) (gives (told_of bits)) w (rw e at g)).1

    many : length bits ≡ M.columns
    many = length-upto M.columns (bit_of string 0)

    -- the columns used lie between 1 and n
    pub file-used : (1 ≤ w.used) × (w.used ≤ M.columns)
    file-used =
        let u : used M.columns (drawn M bits) ≡ w.used = ap (λ (x : Spending). x.used) file-told in
        let h = rw many at (drawn-used M bits (omega (arith, many, (read_accepted file M e).some_columns))) in
        (omega (arith, h.0, u), omega (arith, h.1, u))

    -- a miss has used them all
    pub file-missed : w.answer ≡ missed → w.used ≡ M.columns
    file-missed = told_miss M.columns (drawn M bits) w file-told

    -- of a hit, the columns used less one are the column in which the walk hits the row
    pub file-column : (v : ℕ) → w.answer ≡ sample v → drawn M bits ≡ hit v (w.used - 1)
    file-column v = told-hit M.columns (drawn M bits) w v file-told

    -- 1, 3. no other number is ever given: a row that is hit is below m
    pub file-inside : (v : ℕ) → w.answer ≡ sample v → v < M.rows
    file-inside v q = (hit-inside M bits v (w.used - 1) (file-column v q)).0

    -- and the row has a 1 there
    pub file-set : (v : ℕ) → w.answer ≡ sample v → 0 < bit M v (w.used - 1)
    file-set v q = hit-set M bits v (w.used - 1) (file-column v q)

    -- no bit beyond those used counts: another sound string with the same bits in the columns used is told the same
    pub file_unread : (other : List ℕ) → strings_of 1 M.columns other ≡ gives tt →
        ((i : ℕ) → i < w.used → bit_of string 0 i ≡ bit_of other 0 i) → walk_of file other ≡ gives w
    file_unread other s a =
        let n : ℕ = M.columns in
        let u : used n (drawn M bits) ≡ w.used = ap (λ (x : Spending). x.used) file-told in
        let same : drawn M (upto n (bit_of other 0)) ≡ drawn M bits =
        drawn_unread M bits (upto n (bit_of other 0)) (length-upto n (bit_of other 0) ∙ sym many)
        (λ i h.
        let below : i < w.used = omega (arith, rw (many, u) at h) in
        let within : i < n = omega (arith, file-used.1) in
        get_d_upto n (bit_of string 0) i 0 within ∙ (a i below ∙ sym (get_d_upto n (bit_of other 0) i 0 within))) in
        walk_is other s ∙ (ap (λ (d : Drawn). gives (spending_of n d)) same ∙ ap gives file-told)
