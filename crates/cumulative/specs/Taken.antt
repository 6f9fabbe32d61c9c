-- Tables that pass the checks: what that says of their numbers, and which they are. Assumes nothing.
use Prim.Native.Nat.{ℕ, zero, suc, ◌+◌, ◌^◌, ◌≤◌, ◌<◌}
use Rattle.std.specs.Prelude.{◌≡◌, refl, Bool, true, false, not, ◌||◌, List, ◌↔◌, length}
use Rattle.std.proofs.Common.{sym, ⊎_elim, eq-or-lt_of_le, le_of_suc-le-suc}
use native.Mathlib.Omega.{arith}
use Rattle.std.proofs.Math.Numerals.{add-one}
use borrow.Author.Tests.{le-ltb, eq-eqb, ne_eqb, ltb-false, eqb-true, eqb-false, not-false}
use Rattle.std.proofs.Math.Dec.{eqb, ltb}
use Rattle.laws.specs.Tests.{neither}
use Rattle.laws.specs.Sums.{sum_to, any, any_found, any-all, any_false}
use Rattle.laws.specs.Outcome.{gives, refuse, passed, refuse-gives}
use Rattle.fields.specs.Limits.{outside, inside, within}
use Rattle.cumulative.specs.Tables.{sizes_unfit, most_numbers, most_bits, entry, rows_of, last_of, difference}
use Rattle.cumulative.specs.Tables.{falls, uncumulative, fills, numbers_of}

-- a test of any, by what the library's iterators say of its answer
pub any_is : (n : ℕ) (t : ℕ → Bool) (r : Bool) → (r ≡ true → (k : ℕ) × (k < n) × (t k ≡ true)) →
    (r ≡ false → (k : ℕ) → k < n → t k ≡ false) → r ≡ any n t
any_is n t true f g =
    let h = f refl in
    sym (any_found n h.0 t h.1 h.2)
any_is n t false f g = sym (any-all n t (g refl))

-- no number is below the one before it
pub record Rising (T : List ℕ) : Type 0 where
  pub next : (v : ℕ) → v < rows_of T → entry T v ≤ entry T (v + 1)

pub rising : (T : List ℕ) → falls T ≡ false → Rising T
unfolding falls
rising T e = record { next = λ v l. ltb-false _ _ (any_false (rows_of T) v (λ v. ltb (entry T (v + 1)) (entry T v)) e l) }

-- sizes that fit
pub record Sized (T : List ℕ) (n : ℕ) : Type 0 where
  pub some : 2 ≤ length T
  pub few : length T ≤ most_numbers
  pub some_bits : 1 ≤ n
  pub few_bits : n ≤ most_bits

-- a table that is taken with n columns
pub record Cumulative (T : List ℕ) (n : ℕ) : Type 0 where
  pub sizes : Sized T n
  pub first : entry T 0 ≡ 0
  pub rises : Rising T
  pub last : last_of T ≤ 2 ^ n
  pub fits : (v : ℕ) → v < rows_of T → difference T v < 2 ^ n

-- ---- numbers that do not fall
module _ (T : List ℕ) (up : Rising T) where
  -- nor does a later one
  pub later : (i j : ℕ) → i ≤ j → j ≤ rows_of T → entry T i ≤ entry T j
  later i zero h l =
      let e : i ≡ 0 = omega arith in
      rw e (omega arith)
  later i (suc j) h l =
      ⊎_elim (λ (e : i ≡ suc j). rw e (omega arith))
      (λ (k : i < suc j). let on = rw (add-one j) at (up.next j (omega arith)) in
      omega (arith, on, later i j (le_of_suc-le-suc k) (omega arith))) (eq-or-lt_of_le h)

  -- a number is the first and the differences before it
  pub summed : (v : ℕ) → v ≤ rows_of T → entry T 0 + sum_to v (difference T) ≡ entry T v
  unfolding sum_to difference
  summed zero h = omega arith
  summed (suc v) h =
      let on = rw (add-one v) at (up.next v (omega arith)) in
      rw (← add-one v) (omega (arith, on, up.next v (omega arith), summed v (omega arith)))

-- ---- sizes
module _ (T : List ℕ) (n : ℕ) where
  pub sized : sizes_unfit (length T) n ≡ false → Sized T n
  sized e =
      let a = neither (ltb (length T) 2 || ltb most_numbers (length T)) (outside most_bits n) e in
      let b = neither (ltb (length T) 2) (ltb most_numbers (length T)) a.0 in
      let c = within most_bits n a.1 in
      record { some = ltb-false _ _ b.0; few = ltb-false _ _ b.1; some_bits = c.0; few_bits = c.1 }

  fit : Sized T n → sizes_unfit (length T) n ≡ false
  fit s =
      rw (le-ltb (length T) 2 s.some, le-ltb most_numbers (length T) s.few)
      (inside most_bits n s.some_bits s.few_bits)

  -- ---- exactly the tables that pass are taken
  taken : sizes_unfit (length T) n ≡ false → numbers_of T n ≡ gives tt → Cumulative T n
  unfolding numbers_of fills difference
  taken e q =
      let c15 = passed 15 (uncumulative T n) (refuse 16 (fills T n)) tt q in
      let c16 = refuse-gives 16 (fills T n) tt c15.1 in
      let a = neither (not (eqb (entry T 0) 0) || falls T) (ltb (2 ^ n) (last_of T)) c15.0 in
      let b = neither (not (eqb (entry T 0) 0)) (falls T) a.0 in
      let up = rising T b.1 in
      let top : last_of T ≤ 2 ^ n = ltb-false _ _ a.1 in
      record {
        sizes = sized e;
        first = eqb-true _ _ (not-false _ b.0);
        rises = up;
        last = top;
        fits = λ v l.
            let ne = eqb-false (difference T v) (2 ^ n) (any_false (rows_of T) v (λ v. eqb (difference T v) (2 ^ n)) c16 l) in
            omega (arith, ne, top, later T up (v + 1) (rows_of T) (omega arith) (omega arith));
      }

  passes : Cumulative T n → numbers_of T n ≡ gives tt
  unfolding numbers_of fills falls
  passes c =
      let none = any-all (rows_of T) (λ v. ltb (entry T (v + 1)) (entry T v)) (λ v l. le-ltb _ _ (c.rises.next v l)) in
      let unfull = any-all (rows_of T) (λ v. eqb (difference T v) (2 ^ n))
      (λ v l. ne_eqb (difference T v) (2 ^ n) (λ e. omega (arith, c.fits v l))) in
      rw (eq-eqb (entry T 0) 0 c.first, none, le-ltb (2 ^ n) (last_of T) c.last, unfull)

  pub taken_iff : ((sizes_unfit (length T) n ≡ false) × (numbers_of T n ≡ gives tt)) ↔ Cumulative T n
  taken_iff = ((λ p. taken p.0 p.1), (λ c. (fit c.sizes, passes c)))
