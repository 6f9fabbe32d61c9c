-- A lane's result in the code's words of 16 and 32 bits: no sum and no product of it overflows. Assumes nothing.
use Rattle.std.specs.Prelude.{ℕ, suc, ◌+◌, ◌≤◌, ◌<◌, ◌≡◌, refl, Bool, true, false, cond, not, ◌&&◌, ◌||◌, List, eqb, ℤ, pos, negsuc, neg_ℤ}
use Rattle.std.specs.Prelude.{nat_abs, ◌+ℤ◌, ◌*ℤ◌, length, take}
use Rattle.std.proofs.Common.{length-take, length-take-le, get_or-take}
use Rattle.std.proofs.Common.{sym, ap, ap₂, ◌∙◌, subst, ⊎_elim, one-mul, add-one, arith, eqb-true, to_z-of_z}
use Rattle.std.proofs.Math.Facts.{to_z_pos, sfits_widen, sfits_lit}
use Rattle.std.specs.Int.{w16, w32}
use mir.Val.{SFits, to_z, of_z, bool_byte}
use Rattle.std.proofs.Math.IntN.{+ℤ_idr, zero-*ℤ}
use Rattle.std.specs.Int.Signed.{le_z}
use Rattle.laws.specs.Tests.{never}
use Rattle.laws.specs.Sums.{any, any_next}
use Rattle.laws.specs.Words.{kept}
use Rattle.lanes.specs.Slicing.{lanes}
use Rattle.combining.specs.Integers.{same_z_so, size_fits}
use Rattle.combining.specs.Combination.{most_multiplier, plus_times, is_signed_miss, combined_miss, result_of, is_sample, entry, unsound}
use Rattle.combining.specs.Combination.{result_at, times-size, plus_times-size, sample-is, value_of, SmallValue, sample-small}
use Rattle.combining.specs.Combination.{result_is, Samples}

-- ---- entries
module _ (x : ℤ) (f : SFits w16 x) where
  read : to_z w16 (of_z w16 x) ≡ x
  read = to_z-of_z {w = w16} {z = x} f

  -- its bits are those of the miss exactly where it is the miss
  pub miss_bits : eqb (of_z w16 x) 32767 ≡ is_signed_miss x
  miss_bits = go (eqb (of_z w16 x) 32767) (is_signed_miss x) refl refl
    where
      go : (s t : Bool) → eqb (of_z w16 x) 32767 ≡ s → is_signed_miss x ≡ t → s ≡ t
      go true true p q = refl
      go false false p q = refl
      go true false p q =
          never (sym (rw (sym read ∙ ap (to_z w16) (eqb-true (of_z w16 x) 32767 p)) at q))
      go false true p q = never (sym p ∙ rw (same_z_so x (pos 32767) q))

  pub sample-bits :
      (eqb (of_z w16 x) 32767 || (le_z (negsuc 126) (to_z w16 (of_z w16 x)) && le_z (to_z w16 (of_z w16 x)) (pos 127))) ≡ is_sample x
  unfolding is_sample
  sample-bits = rw (miss_bits, read)

  pub wide_fits : SFits w32 (to_z w16 (of_z w16 x))
  wide_fits = rw read (sfits_widen {w = w16} {w' = w32} {z = x} tt f)

  wide_is : to_z w32 (of_z w32 (to_z w16 (of_z w16 x))) ≡ x
  wide_is = kept _ _ wide_fits read

-- ---- a number that counts, or 0
once : (z : ℤ) → pos 1 *ℤ z ≡ z
once (pos n) = ap pos (one-mul n)
once (negsuc n) = ap (λ (m : ℕ). neg_ℤ (pos m)) (one-mul (suc n))

module _ (counts : Bool) (x : ℤ) (f : SFits w32 x) where
  product : to_z w32 (bool_byte counts) *ℤ to_z w32 (of_z w32 x) ≡ cond counts x (pos 0)
  product = ap (λ (z : ℤ). to_z w32 (bool_byte counts) *ℤ z) (to_z-of_z {w = w32} {z = x} f) ∙ go counts
    where
      go : (b : Bool) → to_z w32 (bool_byte b) *ℤ x ≡ cond b x (pos 0)
      go true = once x
      go false = zero-*ℤ x

  pub counts-fits : SFits w32 (to_z w32 (bool_byte counts) *ℤ to_z w32 (of_z w32 x))
  counts-fits = rw product (go counts)
    where
      go : (b : Bool) → SFits w32 (cond b x (pos 0))
      go true = f
      go false = sfits_lit tt

  pub counts-is : to_z w32 (of_z w32 (to_z w32 (bool_byte counts) *ℤ to_z w32 (of_z w32 x))) ≡ cond counts x (pos 0)
  counts-is = kept _ _ counts-fits product

-- ---- x + k × y
module _ (k : ℕ) (x y : ℤ) (h : k ≤ most_multiplier) (fx : SFits w32 x) (fy : SFits w32 y) (l : nat_abs x ≤ 127127) (m : nat_abs y ≤ 127127)
  where
    times : to_z w32 k *ℤ to_z w32 (of_z w32 y) ≡ pos k *ℤ y
    times = ap₂ ◌*ℤ◌ (to_z_pos w32 {n = k} (omega arith)) (to_z-of_z {w = w32} {z = y} fy)

    pub times-fits : SFits w32 (to_z w32 k *ℤ to_z w32 (of_z w32 y))
    times-fits = rw times (size_fits (pos k *ℤ y) (omega (arith, times-size k 127127 y h m)))

    plus_times_lem : to_z w32 (of_z w32 x) +ℤ to_z w32 (of_z w32 (to_z w32 k *ℤ to_z w32 (of_z w32 y))) ≡ plus_times k x y
    plus_times_lem = ap₂ ◌+ℤ◌ (to_z-of_z {w = w32} {z = x} fx) (kept _ _ times-fits times)

    pub plus_times-fits : SFits w32 (to_z w32 (of_z w32 x) +ℤ to_z w32 (of_z w32 (to_z w32 k *ℤ to_z w32 (of_z w32 y))))
    plus_times-fits = rw plus_times_lem (size_fits (plus_times k x y) (omega (arith, plus_times-size k 127127 x y h l m)))

    pub plus_times-is : to_z w32 (of_z w32 (to_z w32 (of_z w32 x) +ℤ to_z w32 (of_z w32 (to_z w32 k *ℤ to_z w32 (of_z w32 y))))) ≡
        plus_times k x y
    plus_times-is = kept _ _ plus_times-fits plus_times_lem

-- ---- a number, or the miss
module _ (hit : Bool) (x a b : ℤ) (f : SFits w32 x) (fa : SFits w32 a) (fb : SFits w32 b) (ea : a ≡ cond hit x (pos 0))
    (eb : b ≡ cond (not hit) combined_miss (pos 0)) where
  sum : to_z w32 (of_z w32 a) +ℤ to_z w32 (of_z w32 b) ≡ cond hit x combined_miss
  sum = ap₂ ◌+ℤ◌ (kept _ _ fa ea) (kept _ _ fb eb) ∙ go hit
    where
      go : (t : Bool) → cond t x (pos 0) +ℤ cond (not t) combined_miss (pos 0) ≡ cond t x combined_miss
      go true = +ℤ_idr x
      go false = refl

  pub missed-fits : SFits w32 (to_z w32 (of_z w32 a) +ℤ to_z w32 (of_z w32 b))
  missed-fits = rw sum (go hit)
    where
      go : (t : Bool) → SFits w32 (cond t x combined_miss)
      go true = f
      go false = sfits_lit tt

  pub missed-is : to_z w32 (of_z w32 (to_z w32 (of_z w32 a) +ℤ to_z w32 (of_z w32 b))) ≡ cond hit x combined_miss
  missed-is = kept _ _ missed-fits sum

-- ---- what a callee gave, as an argument or as a result
pub small_read : (z z' : ℤ) (b : ℕ) → SFits w32 z → z ≡ z' → nat_abs z' ≤ b → nat_abs (to_z w32 (of_z w32 z)) ≤ b
small_read z z' b f e l = subst (λ (y : ℤ). nat_abs y ≤ b) (sym (kept z z' f e)) l

pub plus_times_read : (k : ℕ) (v w x y r : ℤ) → SFits w32 v → SFits w32 w → SFits w32 r → v ≡ x → w ≡ y →
    r ≡ plus_times k (to_z w32 (of_z w32 v)) (to_z w32 (of_z w32 w)) → to_z w32 (of_z w32 r) ≡ plus_times k x y
plus_times_read k v w x y r fv fw fr ev ew e = kept _ _ fr (e ∙ ap₂ (plus_times k) (kept v x fv ev) (kept w y fw ew))

-- an entry as it is passed to a callee
abbrev passed : ℤ → ℤ
passed x = to_z w16 (of_z w16 x)

module _ (x : ℤ) (f : SFits w16 x) where
  pub passed-small : SmallValue x → SmallValue (passed x)
  passed-small h = subst SmallValue (sym (read x f)) h

  pub passed_value : (v : ℤ) → v ≡ value_of (passed x) → v ≡ value_of x
  passed_value v e = e ∙ ap value_of (read x f)

  pub value_read : (r : ℤ) (h : Bool) → SFits w32 r → h ≡ not (is_signed_miss (passed x)) →
      r ≡ cond h (to_z w32 (of_z w32 (passed x))) (pos 0) → to_z w32 (of_z w32 r) ≡ value_of x
  value_read r h g e q = kept _ _ g (q ∙ rw (e, wide_is x f, read x f) (go (is_signed_miss x)))
    where
      go : (t : Bool) → cond (not t) x (pos 0) ≡ cond t (pos 0) x
      go true = refl
      go false = refl

pub pair_small : (first : ℕ) (x y v : ℤ) → first ≤ most_multiplier → SFits w16 x → SFits w16 y → SmallValue x → SmallValue y → SFits w32 v →
    v ≡ plus_times first (value_of (passed x)) (value_of (passed y)) → nat_abs (to_z w32 (of_z w32 v)) ≤ 127127
pair_small first x y v h f g l m fv e =
    let size = plus_times-size first 127 (value_of (passed x)) (value_of (passed y)) h (passed-small x f l) (passed-small y g m) in
    small_read v _ 127127 fv e (omega (arith, size))

pub missed_read : (hit : Bool) (x a : ℤ) → SFits w32 x → a ≡ cond hit (to_z w32 (of_z w32 x)) (pos 0) → a ≡ cond hit x (pos 0)
missed_read hit x a f e = e ∙ ap (λ (z : ℤ). cond hit z (pos 0)) (to_z-of_z {w = w32} {z = x} f)

pub result_read : (first second : ℕ) (x1 x2 x3 x4 low high s r : ℤ) (h1 h2 h3 h4 : Bool) →
    SFits w16 x1 → SFits w16 x2 → SFits w16 x3 → SFits w16 x4 →
    h1 ≡ not (is_signed_miss (passed x1)) → h2 ≡ not (is_signed_miss (passed x2)) → h3 ≡ not (is_signed_miss (passed x3)) →
    h4 ≡ not (is_signed_miss (passed x4)) →
    SFits w32 low → SFits w32 high → SFits w32 s → SFits w32 r →
    low ≡ plus_times first (value_of (passed x1)) (value_of (passed x2)) →
    high ≡ plus_times first (value_of (passed x3)) (value_of (passed x4)) →
    s ≡ plus_times second (to_z w32 (of_z w32 low)) (to_z w32 (of_z w32 high)) →
    r ≡ cond (h1 && h2 && h3 && h4) (to_z w32 (of_z w32 s)) combined_miss → to_z w32 (of_z w32 r) ≡ result_of first second x1 x2 x3 x4
result_read first second x1 x2 x3 x4 low high s r h1 h2 h3 h4 f1 f2 f3 f4 e1 e2 e3 e4 fl fh fs fr el eh es er =
    let sum = plus_times_read second low high _ _ s fl fh fs el eh es in
    let is : r ≡ result_of first second (passed x1) (passed x2) (passed x3) (passed x4) =
    er ∙ rw (e1, e2, e3, e4, sum) (result_is first second (passed x1) (passed x2) (passed x3) (passed x4)) in
    kept _ _ fr (is ∙ rw (read x1 f1, read x2 f2, read x3 f3, read x4 f4))

-- ---- entries of a list
-- a miss or a signed sample is a number of 16 bits
sample-fits : (x : ℤ) → is_sample x ≡ true → SFits w16 x
sample-fits x e =
    ⊎_elim (λ (q : x ≡ pos 32767). rw q (sfits_lit tt)) (λ (h : nat_abs x ≤ 127). size_fits x (omega arith)) ((sample-is x).0 e)

pub entry-small : (xs : List ℤ) (j : ℕ) → Samples xs → j < lanes → SmallValue (passed (entry xs j))
entry-small xs j s h =
    let e = s.each j h in
    passed-small (entry xs j) (sample-fits (entry xs j) e) (sample-small (entry xs j) e)

pub lane_result : (first second j : ℕ) (x1 x2 x3 x4 : List ℤ) (r : ℤ) → Samples x1 → Samples x2 → Samples x3 → Samples x4 → j < lanes →
    SFits w32 r → r ≡ result_of first second (passed (entry x1 j)) (passed (entry x2 j)) (passed (entry x3 j)) (passed (entry x4 j)) →
    to_z w32 (of_z w32 r) ≡ result_at first second x1 x2 x3 x4 j
lane_result first second j x1 x2 x3 x4 r s1 s2 s3 s4 h f e = kept _ _ f (e ∙ rw (is x1 s1, is x2 s2, is x3 s3, is x4 s4))
  where
    is : (xs : List ℤ) → Samples xs → passed (entry xs j) ≡ entry xs j
    is xs s = read (entry xs j) (sample-fits (entry xs j) (s.each j h))

-- one more entry is tried
pub tried_more : (xs : List ℤ) (j : ℕ) (sound any' : Bool) → SFits w16 (entry xs j) → sound ≡ is_sample (passed (entry xs j)) →
    any' ≡ any j (λ j. not (is_sample (entry xs j))) → (not sound || any') ≡ any (j + 1) (λ j. not (is_sample (entry xs j)))
unfolding any
tried_more xs j sound any' f e q = rw (e, q, read (entry xs j) f, add-one j)

pub tried-all : (xs : List ℤ) (j : ℕ) (any' : Bool) → j ≤ lanes → lanes ≤ j → any' ≡ any j (λ j. not (is_sample (entry xs j))) →
    any' ≡ unsound xs
unfolding unsound
tried-all xs j any' a b q = q ∙ ap (λ (n : ℕ). any n (λ j. not (is_sample (entry xs j)))) (omega arith)

-- the same of the first 64, as a loop over them has them
pub front-tried : (xs : List ℤ) (j : ℕ) (any' sound : Bool) → j < length (take lanes xs) → SFits w16 (entry (take lanes xs) j) →
    sound ≡ is_sample (passed (entry (take lanes xs) j)) → any' ≡ any j (λ j. not (is_sample (entry xs j))) →
    (any' || not sound) ≡ any (j + 1) (λ j. not (is_sample (entry xs j)))
front-tried xs j any' sound h f e q =
    let at : entry (take lanes xs) j ≡ entry xs j = get_or-take lanes xs j (pos 0) (omega (arith, length-take lanes xs)) in
    rw (e, q, read (entry (take lanes xs) j) f, at) (sym (any_next j (λ j. not (is_sample (entry xs j)))))

pub front-all : (xs : List ℤ) (j : ℕ) (any' : Bool) → lanes ≤ length xs → j ≤ length (take lanes xs) → length (take lanes xs) ≤ j →
    any' ≡ any j (λ j. not (is_sample (entry xs j))) → any' ≡ unsound xs
front-all xs j any' l a b q =
    tried-all xs j any' (omega (arith, length-take-le lanes xs l)) (omega (arith, length-take-le lanes xs l)) q
