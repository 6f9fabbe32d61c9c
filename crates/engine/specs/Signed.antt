-- 02, order 5: how often a compiled program gives each signed value, and misses, over all strings of n bits and both signs. Of what is
-- built for signed use each value, 0 as any other, comes in proportion to its weight. Assumes nothing.
use Rattle.std.specs.Prelude.{ℕ, zero, suc, ◌+◌, ◌-◌, ◌*◌, ◌^◌, ◌≤◌, ◌<◌, ◌≡◌, refl, List, ◌∷◌, ◌⊎◌, ℤ, pos, negsuc, length, get_or}
use Rattle.std.proofs.Common.{sym, ◌∙◌, inl, inr, arith}
use Rattle.std.proofs.Math.Path.{ap}
use Rattle.std.proofs.Math.IntN.{nat_abs}
use Rattle.laws.specs.Outcome.{gives, gives_inj}
use Rattle.files.specs.Matrix.{p, total}
use Rattle.files.specs.Sizes.{Sized}
use Rattle.weights.specs.Weights.{counted, sum, built, build_of}
use Rattle.weights.specs.Division.{Largest, largest-near, largest_one}
use Rattle.weights.specs.Uses.{counted-zero, counted_twice, sum-plain, sum-signed}
use Rattle.weights.specs.Building.{counted-le, built_largest, build_iff, built_is}
use Rattle.weights.specs.declared.building.Usage.{Usage}
use Rattle.weights.specs.declared.building.Usage.TheVariants.{Plain, Signed}
use Rattle.walk.specs.Walk.{drawn, answer_of, Drawn, hit, miss}
use Rattle.walk.specs.Strings.{over, over-upto}
use Rattle.walk.specs.Theorems.{hit-inside}
use Rattle.lanes.specs.Samples.{signed_code}
use Rattle.lanes.specs.Lanes.{distance}
use Rattle.compiler.specs.Translation.{compiled, compile_of}
use Rattle.compiler.specs.Compiled.{compile_fits}
use Rattle.engine.specs.Values.{values_to, by_sign}
use Rattle.engine.specs.Parts.{Pick, Picked, Table, Part, entry_of, entry-is, pairs, times, times-is, times_miss}

-- ---- an accepted matrix and its compiled program; lane, other lanes, earlier contents, budget and sign word are chosen anew for each
-- string and sign
module _ (T : Table) (P : Part T) where
  -- a value other than 0 is given by p of its distance many, and 32,767 is no value
  pub signed-values : (z : ℤ) → (z ≡ pos 0 → ⊥) → (z ≡ pos 32767 → ⊥) → times T P z ≡ p T.matrix (nat_abs z)
  signed-values (pos zero) a b = absurd (a refl)
  signed-values (pos (suc v)) a b = times-is T P (pos (suc v)) b
  signed-values (negsuc v) a b = times-is T P (negsuc v) b

  -- 0 by 2 × p_0
  pub signed-zero : times T P (pos 0) ≡ 2 * p T.matrix 0
  signed-zero = times-is T P (pos 0) (λ e. omega (arith, ap nat_abs e))

  -- and twice as many miss as strings do: 2 × (2^n - the sum of the rows)
  pub signed-misses : times T P (pos 32767) ≡ 2 * (2 ^ T.matrix.columns - total T.matrix)
  signed-misses = times_miss T P

  -- no other number is ever given
  pub signed_no_other : (q : Pick) (z : ℤ) → Picked T.matrix.columns q → entry_of T q (P q) ≡ gives z →
      (z ≡ pos 32767) ⊎ (nat_abs z < T.matrix.rows)
  signed_no_other q z h e = from (drawn T.matrix q.string) refl (gives_inj (sym (entry-is T q (P q) h) ∙ e))
    where
      from : (d : Drawn) → drawn T.matrix q.string ≡ d → signed_code q.sign (answer_of d) ≡ z →
          (z ≡ pos 32767) ⊎ (nat_abs z < T.matrix.rows)
      from (hit v c) i s =
          inr (omega (arith, (hit-inside T.matrix q.string v c i).0, ap nat_abs s, distance q.sign v))
      from miss i s = inl (sym s)

-- ---- weights
-- S of signed use is the sum of the weights of all values, 0 once and every other distance from both sides
pub sum-values : (w : ℕ) (ws : List ℕ) → sum Signed (w ∷ ws) ≡ over (values_to (length ws)) (λ z. get_or (w ∷ ws) (nat_abs z) 0)
unfolding sum counted
sum-values w ws =
    sum-signed w ws ∙
    sym
    (by_sign (length ws) (λ z. get_or (w ∷ ws) (nat_abs z) 0) ∙
    omega (
      arith,
      over-upto (length ws) (λ i. i) (λ i. get_or ws i 0),
      over-upto (suc (length ws)) (λ i. i) (λ i. get_or (w ∷ ws) i 0),
      sum-plain w ws,
    ))

-- x of all is what w has of s, or at most two less
pub record Proportion (all w s x : ℕ) : Type 0 where
  pub not_above : x * s ≤ all * w
  pub near : all * w ≤ (x + 2) * s

-- twice a weight's share, and the share of twice a weight
module _ (n w s x : ℕ) where
  share_twice : w ≤ s → Largest n w s x → Proportion (2 * 2 ^ n) w s (2 * x)
  share_twice h a = record { not_above = omega (arith, a.not_above); near = omega (arith, largest-near n w s x h a) }

  twice_share : 2 * w ≤ s → Largest n (2 * w) s x → Proportion (2 * 2 ^ n) w s x
  twice_share h a = record { not_above = omega (arith, a.not_above); near = omega (arith, largest-near n (2 * w) s x h a) }

-- ---- what is built for either use, with its file, and drawn with a sign
module _ (usage : Usage) (weights : List ℕ) (n room : ℕ) (file : List ℕ) (e : build_of usage weights n room ≡ gives file) where
  abbrev pub built_table : Table
  built_table = record { file = file; matrix = built usage weights n; accepted = built_is usage weights n room file e }

  sized : Sized (length weights) n
  sized = ((build_iff usage weights n room file).0 e).0

  some : 0 < sum usage weights
  some = ((build_iff usage weights n room file).0 e).1

  module _ (P : Part built_table) where
    -- a value other than 0 is given as often as the largest number of n bits not above 2^n × its distance's weight, as it counts, / S says
    pub value_share : (z : ℤ) → (z ≡ pos 0 → ⊥) → nat_abs z < length weights →
        Largest n (counted usage (nat_abs z) (get_or weights (nat_abs z) 0)) (sum usage weights) (times built_table P z)
    value_share z ne h =
        rw (signed-values built_table P z ne (λ q. omega (arith, sized.few_rows, ap nat_abs q)))
        (built_largest usage weights n some (nat_abs z) h)

    -- and 0 twice as often as the largest not above 2^n × w_0 / S says
    pub zero-share : (x : ℕ) × (times built_table P (pos 0) ≡ 2 * x) × Largest n (get_or weights 0 0) (sum usage weights) x
    zero-share = (
      p (built usage weights n) 0,
      signed-zero built_table P,
      rw (counted-zero 0 (get_or weights 0 0) usage refl) (built_largest usage weights n some 0 sized.some_rows),
    )

  -- the file compiles, in any room that the program fits in
  pub built_compiles : (space : ℕ) → length (compiled (built usage weights n)) ≤ space →
      compile_of file space ≡ gives (compiled (built usage weights n))
  built_compiles space h = compile_fits file space (built usage weights n) (built_is usage weights n room file e) h

-- ---- for plain use, as 01 builds both: drawn with a sign, 0 comes twice as often as a value of the same weight
module _ (weights : List ℕ) (n room : ℕ) (file : List ℕ) (e : build_of Plain weights n room ≡ gives file) where
  abbrev pub plain_table : Table
  plain_table = built_table Plain weights n room file e

  pub zero_too_often : (P : Part plain_table) (z : ℤ) → (z ≡ pos 0 → ⊥) → nat_abs z < length weights →
      get_or weights (nat_abs z) 0 ≡ get_or weights 0 0 → times plain_table P (pos 0) ≡ 2 * times plain_table P z
  unfolding counted
  zero_too_often P z ne h same =
      let x = zero-share Plain weights n room file e P in
      let v = value_share Plain weights n room file e P z ne h in
      let alike = largest_one n (get_or weights 0 0) (sum Plain weights) x.0 (times plain_table P z) x.2 (rw same at v) in
      x.1 ∙ ap (λ (y : ℕ). 2 * y) alike

-- ---- for signed use: every value comes in proportion to its weight
module _ (weights : List ℕ) (n room : ℕ) (file : List ℕ) (e : build_of Signed weights n room ≡ gives file) where
  abbrev pub signed_table : Table
  signed_table = built_table Signed weights n room file e

  module _ (P : Part signed_table) where
    -- a value other than 0 is given as often as the largest not above 2^n × 2 × w / S says
    pub signed-share : (z : ℤ) → (z ≡ pos 0 → ⊥) → nat_abs z < length weights →
        Largest n (2 * get_or weights (nat_abs z) 0) (sum Signed weights) (times signed_table P z)
    signed-share z ne h =
        rw (counted_twice (nat_abs z) (get_or weights (nat_abs z) 0) Signed refl (λ q. ne (none z q)))
        (value_share Signed weights n room file e P z ne h)
      where
        none : (z : ℤ) → nat_abs z ≡ 0 → z ≡ pos 0
        none (pos v) q = ap pos q
        none (negsuc v) q = absurd (omega arith)

    -- of all pairs of a string and a sign each value, 0 as any other, has what its weight has of S
    pub in_proportion : (z : ℤ) → nat_abs z < length weights →
        Proportion (pairs signed_table) (get_or weights (nat_abs z) 0) (sum Signed weights) (times signed_table P z)
    unfolding counted built
    in_proportion (pos zero) h =
        let x = zero-share Signed weights n room file e P in
        rw x.1 (share_twice n (get_or weights 0 0) (sum Signed weights) x.0 (counted-le Signed weights n 0 h) x.2)
    in_proportion (pos (suc v)) h =
        twice_share n (get_or weights (suc v) 0) (sum Signed weights) (times signed_table P (pos (suc v)))
        (counted-le Signed weights n (suc v) h) (signed-share (pos (suc v)) (λ q. omega (arith, ap nat_abs q)) h)
    in_proportion (negsuc v) h =
        twice_share n (get_or weights (suc v) 0) (sum Signed weights) (times signed_table P (negsuc v))
        (counted-le Signed weights n (suc v) h) (signed-share (negsuc v) (λ q. omega (arith, ap nat_abs q)) h)
