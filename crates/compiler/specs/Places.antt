-- A place of the walk, a row that is hit or a distance, as the bits that one lane holds of it; and the walk as the places that it comes
-- to, column after column. Assumes nothing.
use Prim.Native.Nat.{ℕ, zero, suc, ◌+◌, ◌*◌, ◌-◌, ◌/◌, ◌%◌, ◌^◌, ◌≤◌, ◌<◌, min, max}
use Rattle.std.specs.Prelude.{◌≡◌, refl}
use Rattle.std.proofs.Common.{◌∙◌}
use Rattle.std.proofs.Math.Nat.{min-zero}
use native.Mathlib.Omega.{arith}
use Rattle.laws.specs.Lists.{upto, from, upto_from}
use Rattle.walk.specs.Walk.{Place, Drawn, miss, found, left, Answer, sample, missed, answer_of, at, scan, then, walk}
use Rattle.walk.specs.Steps.{Below, scan_below}

-- ---- what is told, bit by bit
-- H: there is a sample
abbrev pub hit_bit : Answer → ℕ
hit_bit (sample v) = 1
hit_bit missed = 0

-- V_t: bit t of it
abbrev pub sample_bit : ℕ → Answer → ℕ
sample_bit t (sample v) = v / 2 ^ t % 2
sample_bit t missed = 0

-- what is told of a place, if the walk ends there
unfoldable pub answer_at : Place → Answer
answer_at (found v) = sample v
answer_at (left d) = missed

-- 1 if the two are one, and 0 otherwise
unfoldable pub same : ℕ → ℕ → ℕ
same i d = 1 - ((i - d) + (d - i))

-- X_i: the distance is i
unfoldable pub is_at : ℕ → Place → ℕ
is_at i (found v) = 0
is_at i (left d) = same i d

-- ---- what the walk does to a place
-- bit b is read
unfoldable pub doubled : ℕ → Place → Place
doubled b (found v) = found v
doubled b (left d) = left (2 * d + b)

-- the set row v is met
unfoldable pub meeting : ℕ → Place → Place
meeting v (found u) = found u
meeting v (left zero) = found v
meeting v (left (suc d)) = left d

-- where no row is hit yet, the walk goes on
unfoldable pub onto : Place → (ℕ → Place) → Place
onto (found v) go = found v
onto (left d) go = go d

-- after c columns, on the bits b 0, b 1, ..
unfoldable pub place_after : (ℕ → ℕ → ℕ) → ℕ → (ℕ → ℕ) → ℕ → Place
place_after bit m b zero = left 0
place_after bit m b (suc c) = onto (doubled (b c) (place_after bit m b c)) (λ d. scan (λ v. bit v c) m d)

-- ---- the bits of what it does
same_one : (i d : ℕ) → min (same i d) 1 ≡ same i d
unfolding same
same_one i d = omega arith

pub doubled_even : (b i : ℕ) (o : Place) → b ≤ 1 → min (is_at i o) (1 - b) ≡ is_at (2 * i) (doubled b o)
unfolding is_at doubled same
doubled_even b i (found v) h = omega arith
doubled_even zero i (left d) h = same_one i d ∙ omega arith
doubled_even (suc zero) i (left d) h = min-zero (same i d) ∙ omega arith
doubled_even (suc (suc b)) i (left d) h = absurd (omega arith)

pub doubled_odd : (b i : ℕ) (o : Place) → b ≤ 1 → min (is_at i o) b ≡ is_at (2 * i + 1) (doubled b o)
unfolding is_at doubled same
doubled_odd b i (found v) h = omega arith
doubled_odd zero i (left d) h = min-zero (same i d) ∙ omega arith
doubled_odd (suc zero) i (left d) h = same_one i d ∙ omega arith
doubled_odd (suc (suc b)) i (left d) h = absurd (omega arith)

pub doubled-answer : (b : ℕ) (o : Place) → answer_at o ≡ answer_at (doubled b o)
unfolding answer_at doubled
doubled-answer b (found v) = refl
doubled-answer b (left d) = refl

pub meeting_hit : (v : ℕ) (o : Place) → max (hit_bit (answer_at o)) (is_at 0 o) ≡ hit_bit (answer_at (meeting v o))
unfolding answer_at is_at meeting same
meeting_hit v (found u) = refl
meeting_hit v (left zero) = refl
meeting_hit v (left (suc d)) = omega arith

pub meeting_row : (v t : ℕ) (o : Place) → max (sample_bit t (answer_at o)) (v / 2 ^ t % 2 * is_at 0 o) ≡
    sample_bit t (answer_at (meeting v o))
unfolding answer_at is_at meeting same
meeting_row v t (found u) = omega arith
meeting_row v t (left zero) = omega arith
meeting_row v t (left (suc d)) =
    let e : is_at 0 (left (suc d)) ≡ 0 = omega arith in
    rw e (omega arith)

pub meeting_at : (v i : ℕ) (o : Place) → is_at (suc i) o ≡ is_at i (meeting v o)
unfolding is_at meeting same
meeting_at v i (found u) = refl
meeting_at v i (left zero) = omega arith
meeting_at v i (left (suc d)) = omega arith

-- ---- the rows of a column, from a place on
pub onto_none : (o : Place) → o ≡ onto o left
unfolding onto
onto_none (found v) = refl
onto_none (left d) = refl

pub onto_clear : (r : ℕ) (o : Place) (go : ℕ → Place) → onto o go ≡ onto o (λ d. at 0 r d go)
unfolding onto at
onto_clear r (found v) go = refl
onto_clear r (left d) go = refl

pub onto_set : (b r : ℕ) (o : Place) (go : ℕ → Place) → onto (meeting r o) go ≡ onto o (λ d. at (suc b) r d go)
unfolding onto at meeting
onto_set b r (found v) go = refl
onto_set b r (left zero) go = refl
onto_set b r (left (suc d)) go = refl

onto_below : (m x : ℕ) (o : Place) (go : ℕ → Place) → Below m o → ((d : ℕ) → Below m (go d)) → Below m (onto (doubled x o) go)
unfolding onto doubled
onto_below m x (found v) go h f = h
onto_below m x (left d) go h f = f (2 * d + x)

-- ---- what is told of a walk, whatever the column of its hit
then-none : (c : ℕ) (o : Place) → answer_of (then c o (λ d. miss)) ≡ answer_at o
unfolding then answer_at
then-none c (found v) = refl
then-none c (left d) = refl

then-column : (c e b : ℕ) (o : Place) (rows : ℕ → Place) (go : ℕ → Drawn) →
    answer_of (then c o (λ d. then e (rows (2 * d + b)) go)) ≡ answer_of (then e (onto (doubled b o) rows) go)
unfolding then onto doubled
then-column c e b (found v) rows go = refl
then-column c e b (left d) rows go = refl

pub below-answer : (m v : ℕ) (o : Place) → answer_at o ≡ sample v → Below m o → v < m
unfolding answer_at
below-answer m v (found u) e h =
    let q : u ≡ v = cc in
    omega arith
below-answer m v (left d) e h = absurd (let z : ◌≡◌ {A = ℕ} 0 1 = cc in omega arith)

module _ (bit : ℕ → ℕ → ℕ) (m : ℕ) (b : ℕ → ℕ) where
  walk_from : (n c x : ℕ) →
      answer_of (then x (place_after bit m b c) (λ d. walk bit m c d (from b c n))) ≡ answer_at (place_after bit m b (c + n))
  unfolding from walk place_after
  walk_from zero c x =
      let e : c + 0 ≡ c = omega arith in
      rw e (then-none x (place_after bit m b c))
  walk_from (suc n) c x =
      let e : suc c + n ≡ c + suc n = omega arith in
      then-column x c (b c) (place_after bit m b c) (λ d. scan (λ v. bit v c) m d) (λ d. walk bit m (suc c) d (from b (suc c) n)) ∙
      (rw e at (walk_from n (suc c) c))

  -- the walk tells of the place after its last column
  pub walk_answer : (n : ℕ) → answer_of (walk bit m 0 0 (upto n b)) ≡ answer_at (place_after bit m b n)
  unfolding place_after then
  walk_answer n =
      let e : 0 + n ≡ n = omega arith in
      rw (upto_from n b) (rw e at (walk_from n 0 0))

  pub place_below : (c : ℕ) → Below m (place_after bit m b c)
  unfolding place_after
  place_below zero = tt
  place_below (suc c) =
      onto_below m (b c) (place_after bit m b c) (λ d. scan (λ v. bit v c) m d) (place_below c) (scan_below (λ v. bit v c) m)
