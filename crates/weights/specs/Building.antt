-- The ways through the checks of weights, and what is built: an accepted matrix whose rows are the shares. Assumes nothing.
use Prim.Native.Nat.{ℕ, ◌+◌, ◌-◌, ◌*◌, ◌^◌, ◌≤◌, ◌<◌}
use Rattle.std.specs.Prelude.{◌≡◌, refl, true, false, List, ◌↔◌, eqb, ltb, get_or}
use Rattle.std.proofs.Common.{sym, ◌∙◌, le_of_mul-le-mul_right, mul_comm, eq-eqb, ne_eqb, le-ltb, ltb-false}
use native.Mathlib.Omega.{arith}
use Rattle.std.proofs.lemmas.Bool.{eqb-false}
use Rattle.std.proofs.Math.ListN.{length}
use Rattle.laws.specs.Sums.{sum_to, sum_plus, sum_same, sum-eq, sum_mono, sum-times, term_le}
use Rattle.laws.specs.Digits.{digit, digit-le}
use Rattle.laws.specs.Lists.{blocks}
use Rattle.laws.specs.Lay.{lay_at}
use Rattle.laws.specs.Outcome.{refused, gives, refuse, ◌>>◌, mapped, passed, gives_inj}
use Rattle.fields.specs.Limits.{most_columns, inside}
use Rattle.fields.specs.Fields.{packed}
use Rattle.files.specs.Matrix.{Accepted, sizes_outside, bit, p, total, most_rows}
use Rattle.files.specs.Files.{file_length, matrix_file, matrix_of, read_of, write_header_of}
use Rattle.files.specs.Matrices.{tabled_whole, tabled_bit, tabled_bits, numbered_row}
use Rattle.files.specs.Sizes.{Sized, sizes-within, sizes-refuse}
use Rattle.files.specs.Checks.{read_room}
use Rattle.files.specs.Writing.{with_header, Head, Wrote, ends_unheaded, ends_headed}
use Rattle.files.specs.RoundTrip.{write_read}
use Rattle.weights.specs.Weights.{counted, sum, share, built, build_under, build_of, quotient}
use Rattle.weights.specs.Division.{Largest, share-largest, largest-near, share-all, quotient_is}
use Rattle.weights.specs.declared.building.Usage.{Usage}

-- ---- the checks
module _ (usage : Usage) (weights : List ℕ) (n room : ℕ) where
  -- past the sizes, with the header's check for the last
  build_is : sizes_outside (length weights) n ≡ false → build_of usage weights n room ≡
      (refuse 11 (eqb (sum usage weights) 0) >> mapped (λ h. matrix_file (built usage weights n)) (write_header_of (length weights) n room))
  unfolding build_under
  build_is a = sizes-refuse (length weights) n _ ∙ rw (a, with_header (length weights) n room (matrix_file (built usage weights n)) a)

  pub build_sizes : sizes_outside (length weights) n ≡ true → build_of usage weights n room ≡ refused 3
  unfolding build_under
  build_sizes a = sizes-refuse (length weights) n _ ∙ rw a

  pub build_zero : sizes_outside (length weights) n ≡ false → sum usage weights ≡ 0 → build_of usage weights n room ≡ refused 11
  build_zero a c = rw (build_is a, eq-eqb (sum usage weights) 0 c)

-- ---- what is built, for either use
module _ (usage : Usage) (weights : List ℕ) (n : ℕ) where
  abbrev S : ℕ
  S = sum usage weights

  -- weight v, and its row as a number
  abbrev weight : ℕ → ℕ
  weight v = counted usage v (get_or weights v 0)

  abbrev row : ℕ → ℕ
  row v = share n (weight v) S

  pub counted-le : (v : ℕ) → v < length weights → weight v ≤ S
  unfolding sum
  counted-le v l = term_le (length weights) v weight l

  pub built_bit : (v c : ℕ) → v < length weights → c < n → bit (built usage weights n) v c ≡ digit n (row v) c
  unfolding built
  built_bit = tabled_bit (length weights) n (λ v. digit n (row v))

  -- the bits that the division finds
  pub built_quotient : 0 < S → (v c : ℕ) → v < length weights → c < n →
      quotient S (weight v) c ≡ bit (built usage weights n) v c
  built_quotient z v c h l =
      quotient_is S (weight v) n c z (counted-le v h) l ∙ sym (built_bit v c h l)

  -- row v is the share of weight v as it counts
  pub built_row : 0 < sum usage weights → (v : ℕ) → v < length weights → p (built usage weights n) v ≡ row v
  unfolding built
  built_row z v h = numbered_row (length weights) n row v h (share-largest n (weight v) S z).fits

  -- which is the largest number of n bits not above 2^n × the weight / S
  pub built_largest : 0 < sum usage weights → (v : ℕ) → v < length weights → Largest n (weight v) S (p (built usage weights n) v)
  built_largest z v h = rw (built_row z v h) (share-largest n (weight v) S z)

  -- where a weight has all of S it is 2^n - 1
  pub built_all : 0 < sum usage weights → (v : ℕ) → v < length weights → weight v ≡ S → p (built usage weights n) v ≡ 2 ^ n - 1
  built_all z v h e = built_row z v h ∙ rw e (share-all n S z)

  built_total : 0 < S → total (built usage weights n) ≤ 2 ^ n
  unfolding total built sum
  built_total z =
      let m : ℕ = length weights in
      let scaled : sum_to m row * S ≤ sum_to m weight * 2 ^ n =
      rw (← sum-times m row S, ← sum-times m weight (2 ^ n))
      (sum_mono m (λ v. row v * S) (λ v. weight v * 2 ^ n)
      (λ v l. rw (mul_comm (weight v) (2 ^ n)) (share-largest n (weight v) S z).not_above)) in
      rw (sum-eq m (p (built usage weights n)) row (built_row z)) (le_of_mul-le-mul_right {k = S} (omega (arith, scaled)) z)

  -- at most as many strings miss as there are rows
  pub built_misses : 0 < sum usage weights → 2 ^ n ≤ total (built usage weights n) + length weights
  unfolding total built sum
  built_misses z =
      let m : ℕ = length weights in
      let more : sum_to m row + m ≡ sum_to m (λ v. row v + 1) =
      omega (arith, sum_plus m (λ v. row v + 1) row (λ v. 1) (λ v. refl), sum_same m 1 (λ v. 1) (λ v. refl)) in
      let scaled : sum_to m weight * 2 ^ n ≤ (sum_to m row + m) * S =
      rw (more, ← sum-times m (λ v. row v + 1) S, ← sum-times m weight (2 ^ n))
      (sum_mono m (λ v. weight v * 2 ^ n) (λ v. (row v + 1) * S)
      (λ v l. rw (mul_comm (weight v) (2 ^ n))
      (largest-near n (weight v) S (row v) (counted-le v l) (share-largest n (weight v) S z)))) in
      rw (sum-eq m (p (built usage weights n)) row (built_row z)) (le_of_mul-le-mul_right {k = S} (omega (arith, scaled)) z)

  -- the last step of building, past its checks
  module _ (file : List ℕ) (a : sizes_outside (length weights) n ≡ false) (c : S ≡ 0 → ⊥) where
    passes : build_of usage weights n (length file) ≡
        mapped (λ h. matrix_file (built usage weights n)) (write_header_of (length weights) n (length file))
    passes = rw (build_is usage weights n (length file) a, ne_eqb S 0 c)

    pub build_unheaded : (k : ℕ) (now : List ℕ) → Head (length weights) n file (refused k) now →
        Wrote (build_of usage weights n (length file)) file (refused k) now
    unfolding built
    build_unheaded = ends_unheaded (built usage weights n) (build_of usage weights n (length file)) file passes

    pub build_headed : (len : ℕ) (now now' : List ℕ) (s : ℕ) → s ≡ S → Head (length weights) n file (gives len) now →
        now' ≡ lay_at 8 (blocks (length weights) (λ v. packed n (quotient s (weight v)))) now →
        Wrote (build_of usage weights n (length file)) file (gives len) now'
    unfolding built
    build_headed len now now' s e h r =
        let some : 0 < S = omega arith in
        ends_headed (built usage weights n) (build_of usage weights n (length file)) file passes
        (λ v. quotient S (weight v)) len now now' (built_quotient some) h (rw e at r)

  pub built_accepted : 1 ≤ length weights → length weights ≤ most_rows → 1 ≤ n → n ≤ most_columns → 0 < sum usage weights →
      Accepted (built usage weights n)
  unfolding built
  built_accepted a b c d z =
      record {
        some_rows = a;
        few_rows = b;
        some_columns = c;
        few_columns = d;
        whole = tabled_whole (length weights) n (λ v. digit n (row v));
        bits = tabled_bits (length weights) n (λ v. digit n (row v)) (λ v. digit-le n (row v));
        sum = built_total z;
      }

-- ---- when a file is built, and which
-- A file is built exactly where the sizes are within their limits, a weight is above 0 and the file has room; and it is this one.
pub build_iff : (usage : Usage) (weights : List ℕ) (n room : ℕ) (file : List ℕ) → (build_of usage weights n room ≡ gives file) ↔
    (Sized (length weights) n × (0 < sum usage weights) × (file_length (length weights) n ≤ room) ×
    (file ≡ matrix_file (built usage weights n)))
unfolding build_under
build_iff usage weights n room file = (
  (λ e. let c1 = passed 3 (sizes_outside (length weights) n) _ file (sym (sizes-refuse (length weights) n _) ∙ e) in
      let c2 = passed 11 (eqb (sum usage weights) 0) _ file c1.1 in
      let c3 = passed 13 (ltb room (file_length (length weights) n)) _ file c2.1 in (
        sizes-within (length weights) n c1.0,
        omega (arith, eqb-false (sum usage weights) 0 c2.0),
        ltb-false room (file_length (length weights) n) c3.0,
        sym (gives_inj c3.1),
      )),
  (λ q. let s = q.0 in
      rw (
        inside most_rows (length weights) s.some_rows s.few_rows,
        inside most_columns n s.some_columns s.few_columns,
        ne_eqb (sum usage weights) 0 (λ z. omega (arith, q.1)),
        le-ltb room (file_length (length weights) n) q.2,
        q.3,
      )),
)

-- ---- what is built reads as itself
-- What is built is the file of the matrix of the shares.
pub built_is : (usage : Usage) (weights : List ℕ) (n room : ℕ) (file : List ℕ) → build_of usage weights n room ≡ gives file →
    matrix_of file ≡ gives (built usage weights n)
built_is usage weights n room file e =
    let b = (build_iff usage weights n room file).0 e in
    let s = b.0 in
    rw b.3
    (write_read (built usage weights n)
    (built_accepted usage weights n s.some_rows s.few_rows s.some_columns s.few_columns b.1))

-- It reads as that matrix, into any buffer with room for its entries.
pub build_then_read : (usage : Usage) (weights : List ℕ) (n room : ℕ) (file : List ℕ) (space : ℕ) →
    build_of usage weights n room ≡ gives file → length weights * n ≤ space → read_of file space ≡ gives (built usage weights n)
unfolding built
build_then_read usage weights n room file space e h =
    read_room file space (built usage weights n) (built_is usage weights n room file e) h
