-- Bits that are packed, in place: all 0, and one bit more. Assumes nothing.
use Prim.Native.Nat.{ℕ, suc, ◌+◌, ◌-◌, ◌*◌, ◌/◌, ◌%◌, ◌^◌, ◌≤◌, ◌<◌}
use Rattle.std.specs.Prelude.{◌≡◌, refl, cond, ◌≢◌, leb, length, get_or, set, take, drop, replicate}
use Rattle.std.proofs.Common.{sym, ap, ◌∙◌, ⊎_elim, eq-or-lt_of_le, arith, le-leb, length-set, length-take-le, ext_get_or, get_or-set_same}
use Rattle.std.proofs.Common.{get_or-set_other}
use mathlib.Core.List.{List, ◌++◌}
use Rattle.std.proofs.Math.Decide.{ℕ_discrete}
use Rattle.std.proofs.lemmas.Bool.{lt-leb}
use Rattle.std.proofs.lemmas.List.{set-append_left, length-replicate, get_or-replicate}
use Rattle.laws.specs.Tests.{lt-or_ge}
use Rattle.laws.specs.Digits.{number, number-add, number_shift, number-zero, number_lt}
use Rattle.laws.specs.Lists.{get_d_upto}
use Rattle.laws.specs.Lay.{lay, at_front}
use Rattle.fields.specs.Fields.{width, padded, packed, padded-below, padded-above, padded-both, padded-le, length-packed}

-- ---- the bits from a place on
-- those of f from place i on, and 0 before
unfoldable pub from_on : ℕ → (ℕ → ℕ) → ℕ → ℕ
from_on i f j = cond (leb i j) (f j) 0

pub from_at : (i : ℕ) (f : ℕ → ℕ) (j : ℕ) → i ≤ j → from_on i f j ≡ f j
unfolding from_on
from_at i f j h = rw (le-leb i j h)

pub from-before : (i : ℕ) (f : ℕ → ℕ) (j : ℕ) → j < i → from_on i f j ≡ 0
unfolding from_on
from-before i f j h = rw (lt-leb i j h)

from_other : (i : ℕ) (f : ℕ → ℕ) (j : ℕ) → j ≢ i → from_on (suc i) f j ≡ from_on i f j
from_other i f j ne =
    ⊎_elim
    (λ (l : j < i). from-before (suc i) f j (omega arith) ∙ sym (from-before i f j l))
    (λ (l : i ≤ j).
    ⊎_elim
    (λ (e : i ≡ j). absurd (ne (sym e)))
    (λ (k : i < j). from_at (suc i) f j k ∙ sym (from_at i f j l))
    (eq-or-lt_of_le l))
    (lt-or_ge j i)

from_le : (i : ℕ) (f : ℕ → ℕ) (j : ℕ) → f j ≤ 1 → from_on i f j ≤ 1
from_le i f j h =
    ⊎_elim (λ (l : j < i). rw (from-before i f j l) (omega arith)) (λ (l : i ≤ j). rw (from_at i f j l) h) (lt-or_ge j i)

-- ---- one more bit in a packed string
byte_at : (n : ℕ) (f : ℕ → ℕ) (q : ℕ) → q < width n → get_or (packed n f) q 0 ≡ number (padded n f) (8 * q) 8
unfolding packed
byte_at n f q h = get_d_upto (width n) (λ q. number (padded n f) (8 * q) 8) q 0 h

module _ (n i : ℕ) (f : ℕ → ℕ) (ok : (j : ℕ) → j < n → f j ≤ 1) (h : i < n) where
  abbrev before : ℕ → ℕ
  before = padded n (from_on (suc i) f)

  abbrev after : ℕ → ℕ
  after = padded n (from_on i f)

  -- all bits but bit i are the same
  same : (j : ℕ) → j ≢ i → before j ≡ after j
  same j ne =
      ⊎_elim
      (λ (l : j < n).
      sym (padded-below n (from_on (suc i) f) j l) ∙ (from_other i f j ne ∙ padded-below n (from_on i f) j l))
      (λ (l : n ≤ j). sym (padded-above n (from_on (suc i) f) j l) ∙ padded-above n (from_on i f) j l)
      (lt-or_ge j n)

  -- and bit i is f i where it was 0
  here : after i ≡ before i + f i
  here =
      omega (
        arith,
        padded-below n (from_on i f) i h,
        padded-below n (from_on (suc i) f) i h,
        from_at i f i (omega arith),
        from-before (suc i) f i (omega arith),
      )

  -- the byte that has bit i, and any other
  byte_here : number after (8 * (i / 8)) 8 ≡ number before (8 * (i / 8)) 8 + f i * 2 ^ (7 - i % 8)
  byte_here =
      let at : 8 * (i / 8) + i % 8 ≡ i = omega arith in
      number-add before after (8 * (i / 8)) 8 (i % 8) (f i) (omega arith) (rw at here)
      (λ t l ne. same (8 * (i / 8) + t) (λ e. ne (omega arith)))

  byte_other : (q : ℕ) → q ≢ i / 8 → number before (8 * q) 8 ≡ number after (8 * q) 8
  byte_other q ne = number_shift before after (8 * q) (8 * q) 8 (λ t l. same (8 * q + t) (λ e. ne (omega arith)))

  packed-set : set (packed n (from_on (suc i) f)) (i / 8) (number after (8 * (i / 8)) 8) ≡ packed n (from_on i f)
  packed-set =
      let xs : List ℕ = packed n (from_on (suc i) f) in
      let y : ℕ = number after (8 * (i / 8)) 8 in
      let long = length-packed n (from_on (suc i) f) in
      ext_get_or 0 (set xs (i / 8) y) (packed n (from_on i f)) (length-set xs (i / 8) y ∙ (long ∙ sym (length-packed n (from_on i f))))
      (λ q l. by q (omega (arith, l, length-set xs (i / 8) y, long)) (ℕ_discrete q (i / 8)))
    where
      by : (q : ℕ) → q < width n → Dec (q ≡ i / 8) →
          get_or (set (packed n (from_on (suc i) f)) (i / 8) (number after (8 * (i / 8)) 8)) q 0 ≡ get_or (packed n (from_on i f)) q 0
      by q l (yes e) =
          rw e
          (get_or-set_same (packed n (from_on (suc i) f)) (i / 8) (number after (8 * (i / 8)) 8) 0
          (omega (arith, length-packed n (from_on (suc i) f))) ∙
          sym (byte_at n (from_on i f) (i / 8) (omega arith)))
      by q l (no ne) =
          get_or-set_other (packed n (from_on (suc i) f)) (i / 8) q (number after (8 * (i / 8)) 8) 0 ne ∙
          (byte_at n (from_on (suc i) f) q l ∙ (byte_other q ne ∙ sym (byte_at n (from_on i f) q l)))

  -- laid at the front of a buffer
  module _ (buf now : List ℕ) (is : now ≡ lay (packed n (from_on (suc i) f)) buf) where
    byte_now : get_or now (i / 8) 0 + f i * 2 ^ (7 - i % 8) ≡ number after (8 * (i / 8)) 8
    byte_now =
        omega (
          arith,
          ap (λ (l : List ℕ). get_or l (i / 8) 0) is,
          at_front (packed n (from_on (suc i) f)) buf (i / 8) 0 (omega (arith, length-packed n (from_on (suc i) f))),
          byte_at n (from_on (suc i) f) (i / 8) (omega arith),
          byte_here,
        )

    pub bit-fits : get_or now (i / 8) 0 + f i * 2 ^ (7 - i % 8) < 2 ^ 8
    bit-fits =
        rw byte_now
        (number_lt after (8 * (i / 8)) 8 (λ j a b. padded-le n (from_on i f) j (λ k l. from_le i f k (ok k l))))

    pub bit_added : set now (i / 8) (get_or now (i / 8) 0 + f i * 2 ^ (7 - i % 8)) ≡ lay (packed n (from_on i f)) buf
    unfolding lay
    bit_added =
        let xs : List ℕ = packed n (from_on (suc i) f) in
        let y : ℕ = number after (8 * (i / 8)) 8 in
        rw (byte_now, is)
        (set-append_left xs (drop (length xs) buf) (i / 8) y (omega (arith, length-packed n (from_on (suc i) f))) ∙
        rw (packed-set, length-packed n (from_on (suc i) f), length-packed n (from_on i f)))

-- ---- bits that are all 0
cleared_byte : (n q : ℕ) → number (padded n (λ i. 0)) (8 * q) 8 ≡ 0
cleared_byte n q =
    number-zero (padded n (λ i. 0)) (8 * q) 8 (λ t l. padded-both (λ (x : ℕ). x ≡ 0) n (λ i. 0) (8 * q + t) (λ h. refl) (λ h. refl))

-- and the bytes of such bits, filled in at the front of a buffer
pub cleared : (n w : ℕ) (buf front : List ℕ) → w ≡ width n → w ≤ length buf → front ≡ replicate (length (take w buf)) 0 →
    front ++ drop w buf ≡ lay (packed n (λ i. 0)) buf
unfolding lay
cleared n w buf front e h f =
    let zeros : replicate (width n) 0 ≡ packed n (λ i. 0) =
    ext_get_or 0 (replicate (width n) 0) (packed n (λ i. 0)) (length-replicate {A = ℕ} (width n) 0 ∙ sym (length-packed n (λ i. 0)))
    (λ q l.
    let k : q < width n = omega (arith, l, length-replicate {A = ℕ} (width n) 0) in
    get_or-replicate (width n) q 0 0 k ∙ sym (byte_at n (λ i. 0) q k ∙ cleared_byte n q)) in
    rw (f, length-take-le w buf h, e, zeros, length-packed n (λ i. 0))
