-- The bits of a string from its last 1 back to its first, and the ones that are counted for it. Assumes nothing.
use Prim.Native.Nat.{ℕ, suc, ◌+◌, ◌-◌, ◌*◌, ◌/◌, ◌%◌, ◌^◌, ◌≤◌, ◌<◌}
use Rattle.std.specs.Prelude.{◌≡◌, refl, get_or, set, sum_by}
use Rattle.std.specs.List.{range_with_len}
use Rattle.std.proofs.Math.Path.{sym, ap}
use Rattle.std.proofs.Common.{◌∙◌, add-one}
use mathlib.Core.List.{List}
use Rattle.std.proofs.Math.Logic.{⊎_elim}
use native.Mathlib.Omega.{arith}
use Rattle.std.proofs.lemmas.Nat.{shl-shr}
use Rattle.std.proofs.Math.Pow.{shr-shr}
use Rattle.laws.specs.Tests.{lt-or_ge}
use Rattle.laws.specs.Sums.{sum_to, sum-le}
use Rattle.laws.specs.Digits.{digit, digit-le, digit-behind}
use Rattle.laws.specs.Lay.{lay, lay-again}
use Rattle.fields.specs.Fields.{packed, packed-eq, length-packed}
use Rattle.files.specs.Matrix.{ones_in}
use Rattle.walk.specs.Ranges.{sum_from}
use Rattle.walk.specs.Intervals.{total_to, total_more, above, leading, first_number}
use Rattle.wanted.specs.Adding.{from_on, from_at, from-before, bit-fits, bit_added}

-- ---- back from column c
-- with e in column i, whose bit and all after it are laid down: e and twice T of the columns before it are the first i + 1 bits of x
pub record LaidFrom (bit : ℕ → ℕ → ℕ) (m n x i e : ℕ) (buf now : List ℕ) : Type 0 where
  pub carry : 2 * total_to bit m i + e ≡ x / 2 ^ (n - 1 - i)
  pub is : now ≡ lay (packed n (from_on i (digit n x))) buf

-- the bit of column i is e % 2
carried : (bit : ℕ → ℕ → ℕ) (m n x i e : ℕ) → 2 * total_to bit m i + e ≡ x / 2 ^ (n - 1 - i) → e % 2 ≡ digit n x i
unfolding digit
carried bit m n x i e q = rw (← q) (omega arith)

module _ (bit : ℕ → ℕ → ℕ) (m n : ℕ) where
  -- the bit of column i, where those after it are laid down
  module _ (x i e : ℕ) (h : i < n) (carry : 2 * total_to bit m i + e ≡ x / 2 ^ (n - 1 - i)) (buf now : List ℕ)
      (is : now ≡ lay (packed n (from_on (suc i) (digit n x))) buf) where
    fits : get_or now (i / 8) 0 + e % 2 * 2 ^ (7 - i % 8) < 2 ^ 8
    fits = rw (carried bit m n x i e carry) (bit-fits n i (digit n x) (λ j l. digit-le n x j) h buf now is)

    laid_from : (now' : List ℕ) → now' ≡ set now (i / 8) (get_or now (i / 8) 0 + e % 2 * 2 ^ (7 - i % 8)) → LaidFrom bit m n x i e buf now'
    laid_from now' q =
        record {
          carry = carry;
          is = q ∙ rw (carried bit m n x i e carry) (bit_added n i (digit n x) (λ j l. digit-le n x j) h buf now is);
        }

  -- in column c all bits after it are 0, and e is the number of ones above the row
  module _ (v c e : ℕ) (h : c < n) (o : e + ones_in bit (v + 1) c ≡ ones_in bit m c) (buf now : List ℕ)
      (z : now ≡ lay (packed n (λ i. 0)) buf) where
    abbrev first : ℕ
    first = first_number bit m n v c

    first-carry : 2 * total_to bit m c + e ≡ first / 2 ^ (n - 1 - c)
    unfolding first_number leading
    first-carry =
        let o' : e + ones_in bit (suc v) c ≡ ones_in bit m c = rw (add-one v) at o in
        rw (shl-shr (2 * total_to bit m c + above bit m v c) (n - 1 - c)) (omega arith)

    none_after : now ≡ lay (packed n (from_on (suc c) (digit n first))) buf
    unfolding first_number
    none_after =
        z ∙ ap (λ (l : List ℕ). lay l buf)
        (packed-eq n (λ i. 0) (from_on (suc c) (digit n first))
        (λ j l.
        ⊎_elim (λ (k : j < suc c). sym (from-before (suc c) (digit n first) j k))
        (λ (k : suc c ≤ j). sym (from_at (suc c) (digit n first) j k ∙ digit-behind n (leading bit m v c) c j k l))
        (lt-or_ge j (suc c))))

    pub first_fits : get_or now (c / 8) 0 + e % 2 * 2 ^ (7 - c % 8) < 2 ^ 8
    first_fits = fits first c e h first-carry buf now none_after

    pub first-laid : (now' : List ℕ) → now' ≡ set now (c / 8) (get_or now (c / 8) 0 + e % 2 * 2 ^ (7 - c % 8)) →
        LaidFrom bit m n first c e buf now'
    first-laid = laid_from first c e h first-carry buf now none_after

  -- and in each column to the left e is half of what it was, and the ones of that column
  module _ (x i e w : ℕ) (z : 0 < i) (h : i < n) (o : w + ones_in bit 0 (i - 1) ≡ ones_in bit m (i - 1)) (buf now : List ℕ)
      (d : LaidFrom bit m n x i e buf now) where
    next-carry : 2 * total_to bit m (i - 1) + (e / 2 + w) ≡ x / 2 ^ (n - 1 - (i - 1))
    unfolding ones_in sum_to
    next-carry =
        let s : suc (i - 1) ≡ i = omega arith in
        let r : n - 1 - (i - 1) ≡ n - 1 - i + 1 = omega arith in
        let t : x / 2 ^ (n - 1 - i) / 2 ≡ x / 2 ^ (n - 1 - i + 1) = shr-shr x (n - 1 - i) 1 in
        rw (r, ← t, ← d.carry) (omega (arith, rw s at (total_more bit m (i - 1))))

    next-is : now ≡ lay (packed n (from_on (suc (i - 1)) (digit n x))) buf
    next-is =
        let s : suc (i - 1) ≡ i = omega arith in
        rw s d.is

    pub next_fits : get_or now ((i - 1) / 8) 0 + (e / 2 + w) % 2 * 2 ^ (7 - (i - 1) % 8) < 2 ^ 8
    next_fits = fits x (i - 1) (e / 2 + w) (omega arith) next-carry buf now next-is

    pub next-laid : (now' : List ℕ) →
        now' ≡ set now ((i - 1) / 8) (get_or now ((i - 1) / 8) 0 + (e / 2 + w) % 2 * 2 ^ (7 - (i - 1) % 8)) →
        LaidFrom bit m n x (i - 1) (e / 2 + w) buf now'
    next-laid = laid_from x (i - 1) (e / 2 + w) (omega arith) next-carry buf now next-is

  -- what stands laid, laid again, stays; and what is laid over it later is laid on what was there before
  pub laid-again : (x i e : ℕ) (buf now : List ℕ) → LaidFrom bit m n x i e buf now → LaidFrom bit m n x i e now now
  laid-again x i e buf now d =
      let g : List ℕ = packed n (from_on i (digit n x)) in
      record { carry = d.carry; is = d.is ∙ (sym (lay-again g g buf refl) ∙ ap (lay g) (sym d.is)) }

  -- at column 0 all are laid
  pub laid-all : (x c f i e : ℕ) (buf first now : List ℕ) → i ≤ 0 → LaidFrom bit m n x c f buf first → LaidFrom bit m n x i e first now →
      now ≡ lay (packed n (digit n x)) buf
  laid-all x c f i e buf first now h a d =
      let g : List ℕ = packed n (from_on c (digit n x)) in
      let all : packed n (from_on i (digit n x)) ≡ packed n (digit n x) =
      packed-eq n (from_on i (digit n x)) (digit n x) (λ j l. from_at i (digit n x) j (omega arith)) in
      d.is ∙ rw (all, a.is)
      (lay-again g (packed n (digit n x)) buf (length-packed n (from_on c (digit n x)) ∙ sym (length-packed n (digit n x))))

-- ---- the ones of some rows, as the library's iterators add them up
module _ (bit : ℕ → ℕ → ℕ) (c from to : ℕ) (few : (v : ℕ) → bit v c ≤ 1) (h : from ≤ to) where
  -- with those of the rows before them they are the ones of all rows, and these are at most as many as the rows
  pub ones-summed : sum_by (λ v. bit v c) (range_with_len from (to - from)) + ones_in bit from c ≡ ones_in bit to c
  unfolding ones_in
  ones-summed =
      let end : from + (to - from) ≡ to = omega arith in
      sum_from from (to - from) (λ v. bit v c) ∙ ap (λ (i : ℕ). sum_to i (λ v. bit v c)) end

  pub ones-few : sum_by (λ v. bit v c) (range_with_len from (to - from)) ≤ to
  unfolding ones_in
  ones-few = omega (arith, ones-summed, sum-le to 1 (λ v. bit v c) (λ v l. few v))

  pub summed : (k : ℕ) → k ≡ sum_by (λ v. bit v c) (range_with_len from (to - from)) →
      (k + ones_in bit from c ≡ ones_in bit to c) × (k ≤ to)
  summed k e = rw e (ones-summed, ones-few)
