-- 02, order 7, of every accepted matrix: the number that is given is the first of the interval of the row's first set column; and there is
-- none exactly where the row is all zero. Assumes nothing.
use Rattle.std.specs.Prelude.{ℕ, ◌-◌, ◌^◌, ◌≤◌, ◌<◌, ◌≡◌, Bool, true, false, List, ◌↔◌}
use Rattle.std.proofs.Math.Path.{refl}
use Rattle.std.proofs.Common.{sym, ap, ◌∙◌, ⊎_elim, zero-add, eq-or-lt_of_le, eqb-true, pow_pos}
use Rattle.std.proofs.Math.Option.{Option, none, some, some-ne-none, some-injective}
use native.Mathlib.Omega.{arith}
use Rattle.std.proofs.lemmas.Bool.{eqb-false}
use Rattle.std.proofs.Math.Dec.{eqb}
use Rattle.laws.specs.Tests.{lt-or_ge}
use Rattle.laws.specs.Digits.{digit, digit-behind, number-zero, zero_digits}
use Rattle.laws.specs.Smallest.{smallest, Smallest, smallest_is, smallest_iff}
use Rattle.files.specs.Matrix.{Matrix, Accepted, bit, p, total}
use Rattle.files.specs.Live.{total_from}
use Rattle.files.specs.RoundTrip.{accepted-bits}
use Rattle.walk.specs.Walk.{hit, drawn, hits}
use Rattle.walk.specs.Strings.{Bits}
use Rattle.walk.specs.Numbers.{string_number, number_string, number-bits, string_of_number, number_of_string, string-lt}
use Rattle.walk.specs.Intervals.{leading, first_number, hits-is, ends-below, ends-before, hit_iff, Hitting, row_iff}
use Rattle.wanted.specs.Wanted.{number_for}

-- s is the smallest of the strings of n bits on which the walk hits row v
pub record SmallestString (M : Matrix) (v : ℕ) (s : List ℕ) : Type 0 where
  pub bits : Bits M.columns s
  pub hit : hits v (drawn M s) ≡ true
  pub least : (t : List ℕ) → Bits M.columns t → string_number M.columns t < string_number M.columns s → hits v (drawn M t) ≡ false

-- the first set column of row v, and the first number of its interval
abbrev pub first_column : Matrix → ℕ → Option ℕ
first_column M v = smallest M.columns (λ c. eqb (bit M v c) 1)

abbrev pub first_of : (ℕ → ℕ → ℕ) → ℕ → ℕ → ℕ → Option ℕ → Option ℕ
first_of bit m n v none = none
first_of bit m n v (some c) = some (first_number bit m n v c)

-- a test that does not pass
not-passed : (b : Bool) → (b ≡ true → ⊥) → b ≡ false
not-passed true h = absurd (h refl)
not-passed false h = refl

-- ---- by the number: what the definition says
module _ (M : Matrix) (v : ℕ) where
  abbrev hit_by : ℕ → Bool
  hit_by x = hits v (drawn M (number_string M.columns x))

  pub number_iff : (o : Option ℕ) → (number_for M v ≡ o) ↔ Smallest (2 ^ M.columns) hit_by o
  unfolding number_for
  number_iff o = smallest_iff (2 ^ M.columns) hit_by o

  -- the string of the number that is given is the smallest
  pub number_smallest : (x : ℕ) → number_for M v ≡ some x → SmallestString M v (number_string M.columns x)
  number_smallest x e =
      let n : ℕ = M.columns in
      let q = (number_iff (some x)).0 e in
      record {
        bits = number-bits n x;
        hit = q.1;
        least = λ t b l.
            ap (λ (s : List ℕ). hits v (drawn M s)) (sym (number_of_string n t b)) ∙
            q.2 (string_number n t) (omega (arith, l, string_of_number n x q.0));
      }

  -- and where the smallest string is, its number is given
  pub smallest_number : (s : List ℕ) → SmallestString M v s → number_for M v ≡ some (string_number M.columns s)
  smallest_number s h =
      let n : ℕ = M.columns in
      (number_iff (some (string_number n s))).1 (
        string-lt n s h.bits,
        ap (λ (t : List ℕ). hits v (drawn M t)) (number_of_string n s h.bits) ∙ h.hit,
        (λ y l. h.least (number_string n y) (number-bits n y)
            (omega (arith, string_of_number n y (omega (arith, string-lt n s h.bits))))),
      )

-- ---- where the first set column is
module _ (M : Matrix) (a : Accepted M) (v : ℕ) (h : v < M.rows) where
  -- a bit that is not 1 is 0
  clear : (c : ℕ) → c < M.columns → eqb (bit M v c) 1 ≡ false → bit M v c ≡ 0
  clear c l e = omega (arith, accepted-bits M a v c h l, eqb-false (bit M v c) 1 e)

  -- T, as that of all columns, is at most 2^n
  whole : total_from (bit M) M.rows 0 M.columns ≤ 2 ^ M.columns
  unfolding total_from total p
  whole = a.sum

  module _ (c : ℕ) (f : Smallest M.columns (λ c. eqb (bit M v c) 1) (some c)) where
    abbrev first : ℕ
    first = first_number (bit M) M.rows M.columns v c

    set : bit M v c ≡ 1
    set = eqb-true (bit M v c) 1 f.1

    first-lt : first < 2 ^ M.columns
    first-lt =
        omega (arith, ends-below (bit M) M.rows M.columns v c h f.0 set, whole, pow_pos (M.columns - 1 - c))

    -- on the string of its first number the walk hits the row there
    first-hits : drawn M (number_string M.columns first) ≡ hit v c
    first-hits =
        let e = string_of_number M.columns first first-lt in
        (hit_iff M a (number_string M.columns first) (number-bits M.columns first) v c h f.0 set).1
        (record { from = omega (arith, e); below = omega (arith, e, pow_pos (M.columns - 1 - c)) })

    -- whatever hits the row has no smaller number
    hits-from : (s : List ℕ) → Hitting M v s → first ≤ string_number M.columns s
    hits-from s q =
        ⊎_elim
        (λ (l : q.0 < c). absurd (omega (arith, q.2, clear q.0 q.1 (f.2 q.0 l))))
        (λ (l : c ≤ q.0).
        ⊎_elim
        (λ (e : c ≡ q.0).
        omega (arith, q.3.from, ap (λ (i : ℕ). first_number (bit M) M.rows M.columns v i) e))
        (λ (k : c < q.0).
        omega (arith, q.3.from, ends-before (bit M) M.rows M.columns v c h f.0 set v q.0 k q.1))
        (eq-or-lt_of_le l))
        (lt-or_ge q.0 c)

    number-first : number_for M v ≡ some first
    number-first =
        (number_iff M v (some first)).1 (
          first-lt,
          hits-is v c (drawn M (number_string M.columns first)) first-hits,
          (λ y l. not-passed (hits v (drawn M (number_string M.columns y)))
              (λ e.
              let b = number-bits M.columns y in
              omega (
                arith,
                hits-from (number_string M.columns y) ((row_iff M a (number_string M.columns y) b v h).0 e),
                string_of_number M.columns y (omega (arith, first-lt)),
              ))),
        )

  -- ---- a row that is all zero is hit on no string
  pub never-hit : p M v ≡ 0 → (s : List ℕ) → Bits M.columns s → hits v (drawn M s) ≡ false
  unfolding p
  never-hit z s b =
      not-passed (hits v (drawn M s))
      (λ e.
      let q = (row_iff M a s b v h).0 e in
      omega (
        arith,
        q.2,
        zero_digits (bit M v) 0 M.columns (λ c i l. accepted-bits M a v c h (omega arith)) z q.0 (omega arith) (omega (arith, q.1)),
      ))

  number-none : p M v ≡ 0 → number_for M v ≡ none
  number-none z = (number_iff M v none).1 (λ y l. never-hit z (number_string M.columns y) (number-bits M.columns y))

  all-zero : Smallest M.columns (λ c. eqb (bit M v c) 1) none → p M v ≡ 0
  unfolding p
  all-zero f = number-zero (bit M v) 0 M.columns (λ c l. rw (zero-add c) (clear c l (f c l)))

  -- ---- so the first set column tells all
  number_of : (o : Option ℕ) → Smallest M.columns (λ c. eqb (bit M v c) 1) o →
      number_for M v ≡ first_of (bit M) M.rows M.columns v o
  number_of none f = number-none (all-zero f)
  number_of (some c) f = number-first c f

  pub number_is : number_for M v ≡ first_of (bit M) M.rows M.columns v (first_column M v)
  number_is = number_of (first_column M v) (smallest_is M.columns (λ c. eqb (bit M v c) 1))

  -- on the string that is given the walk hits the row in its first set column, and the bits after that are 0
  pub first-column : (x : ℕ) → number_for M v ≡ some x →
      (c : ℕ) × (first_column M v ≡ some c) × (drawn M (number_string M.columns x) ≡ hit v c) ×
      ((i : ℕ) → c < i → i < M.columns → digit M.columns x i ≡ 0)
  unfolding first_number
  first-column x e = by (first_column M v) refl (smallest_is M.columns (λ c. eqb (bit M v c) 1))
    where
      by : (o : Option ℕ) → first_column M v ≡ o → Smallest M.columns (λ c. eqb (bit M v c) 1) o →
          (c : ℕ) × (first_column M v ≡ some c) × (drawn M (number_string M.columns x) ≡ hit v c) ×
          ((i : ℕ) → c < i → i < M.columns → digit M.columns x i ≡ 0)
      by none q f = absurd (some-ne-none x (sym e ∙ number-none (all-zero f)))
      by (some c) q f =
          let z : x ≡ first c f = some-injective x (first c f) (sym e ∙ number-first c f) in
          (c, q, rw z (first-hits c f), (λ i a l. rw z (digit-behind M.columns (leading (bit M) M.rows v c) c i a l)))

  -- ---- none exactly where the row is all zero
  given-or-zero : (o : Option ℕ) → Smallest M.columns (λ c. eqb (bit M v c) 1) o → number_for M v ≡ none → p M v ≡ 0
  given-or-zero none f e = all-zero f
  given-or-zero (some c) f e = absurd (some-ne-none (first_number (bit M) M.rows M.columns v c) (sym (number-first c f) ∙ e))

  pub none_iff : (number_for M v ≡ none) ↔ (p M v ≡ 0)
  none_iff = (given-or-zero (first_column M v) (smallest_is M.columns (λ c. eqb (bit M v c) 1)), number-none)
