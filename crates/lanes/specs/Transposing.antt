-- A table of 64 rows of 64 bits, turned over its diagonal by six rounds of shifts and masks. Assumes nothing.
use Rattle.std.specs.Prelude.{ℕ, ◌+◌, ◌-◌, ◌*◌, ◌/◌, ◌%◌, ◌^◌, min, ◌≤◌, ◌<◌, ◌≡◌, refl, Bool, true, false, not, ◌&&◌, List, [], ◌∷◌, ◌≢◌}
use Rattle.std.specs.Prelude.{◌⊎◌, eqb, ltb, length, get_or, set, replicate}
use Rattle.std.proofs.Math.Path.{sym}
use Rattle.std.proofs.Common.{◌∙◌, subst, ⊎_elim, eq-or-lt_of_le, mul-le-mul_right, mod-lt, zero-mul, div-add-mod', arith, eqb-true}
use Rattle.std.proofs.Common.{ltb-true, length-set, pow_pos, get_or-set_same, get_or-set_other}
use Rattle.std.proofs.Math.Nat.{zero-mod, zero-div, add-mod_right, div-eq_of_lt, div-eq_of_lt-le, div-eq-sub-div}
use Rattle.std.proofs.lemmas.Bool.{not-true, not-false}
use Rattle.std.specs.Int.Bits.{bit_and, bit_xor}
use Rattle.std.proofs.lemmas.Nat.{xor_lt}
use Rattle.std.proofs.Math.ListN.{get_or-eq_default}
use Rattle.std.proofs.Math.Seq.{ext_get_or}
use Rattle.laws.specs.Tests.{both, lt-or_ge, reached, zero-or_one}
use Rattle.laws.specs.Sums.{any, any_false}
use Rattle.laws.specs.Words.{bit_at, pack, bit_at_lt, bit_at_and, bit_at_xor, bit_at_shr, bit_at_shl, bit_at_shl_below}
use Rattle.laws.specs.Words.{masked_lt, pack-bits, pack-eq}
use Rattle.laws.specs.Lists.{upto, row-end, length-upto, get_d_upto, all_set, all_replicate}

-- the rows of a table, and the bits of a row
abbrev pub side : ℕ
side = 64

-- the rows that may be set in a table whose others are zero
abbrev pub front : ℕ
front = 16

-- the table with row and column exchanged: bit c of row r is bit r of row c
unfoldable pub transposed : List ℕ → List ℕ
transposed rows = upto side (λ r. pack side (λ c. bit_at (get_or rows c 0) r))

-- as many rows, each a word
pub record Table (rows : List ℕ) : Type 0 where
  pub long : length rows ≡ side
  pub words : (r : ℕ) → get_or rows r 0 < 2 ^ 64

-- the rows from k on are zero
pub record Front (k : ℕ) (rows : List ℕ) : Type 0 where
  pub clear : (r : ℕ) → k ≤ r → get_or rows r 0 ≡ 0

pub transposed-row : (rows : List ℕ) (r : ℕ) → r < side → get_or (transposed rows) r 0 ≡ pack side (λ c. bit_at (get_or rows c 0) r)
unfolding transposed
transposed-row rows r h = get_d_upto side (λ r. pack side (λ c. bit_at (get_or rows c 0) r)) r 0 h

pub blank_table : Table (replicate side 0)
blank_table = record { long = refl; words = all_replicate (λ x. x < 2 ^ 64) 0 side (omega arith) }

pub table-set : (rows : List ℕ) (k x : ℕ) → x < 2 ^ 64 → Table rows → Table (set rows k x)
table-set rows k x h t =
    record { long = length-set rows k x ∙ t.long; words = all_set (λ x. x < 2 ^ 64) 0 rows k x t.words h }

pub blank_front : (k : ℕ) → Front k (replicate side 0)
blank_front k = record { clear = λ r a. all_replicate (λ x. x ≡ 0) 0 side refl r }

pub front-set : (rows : List ℕ) (n k x : ℕ) → k < n → Front n rows → Front n (set rows k x)
front-set rows n k x h f = record { clear = λ r a. get_or-set_other rows k r x 0 (omega arith) ∙ f.clear r a }

-- ---- halves of blocks
-- Places in blocks of 2 d: in which half of its block place c stands.
abbrev pub half : ℕ → ℕ → ℕ
half d c = c / d % 2

half_of : (d c : ℕ) → (half d c ≡ 0) ⊎ (half d c ≡ 1)
half_of d c = zero-or_one (half d c) (omega arith)

-- a block that begins at k: its first half, its second half, and where the next one begins
module _ (d k : ℕ) (e : k % (2 * d) ≡ 0) where
  begins : k / (2 * d) * (2 * d) ≡ k
  begins = omega (arith, div-add-mod' k (2 * d))

  first-half : (i : ℕ) → k ≤ i → i < k + d → half d i ≡ 0
  first-half i a b =
      let q : ℕ = k / (2 * d) in
      let at : i / d ≡ 2 * q = div-eq_of_lt-le {k = 2 * q} d {m = i} (omega (arith, begins)) (omega (arith, begins)) in
      rw at (omega arith)

  second-half : (i : ℕ) → k + d ≤ i → i < k + 2 * d → half d i ≡ 1
  second-half i a b =
      let q : ℕ = k / (2 * d) in
      let at : i / d ≡ 2 * q + 1 = div-eq_of_lt-le {k = 2 * q + 1} d {m = i} (omega (arith, begins)) (omega (arith, begins)) in
      rw at (omega arith)

  pub block_next : (k + 2 * d) % (2 * d) ≡ 0
  block_next = add-mod_right k (2 * d) ∙ e

-- d places back, in the other half
module _ (d : ℕ) (z : 0 < d) where
  back_low : (c : ℕ) → half d c ≡ 1 → (d ≤ c) × (half d (c - d) ≡ 0)
  back_low c e =
      ⊎_elim (λ (l : c < d). absurd (omega (arith, div-eq_of_lt {n = c} {m = d} l)))
      (λ (l : d ≤ c). (l, omega (arith, div-eq-sub-div {m = d} {n = c} z l))) (lt-or_ge c d)

  back-high : (c : ℕ) → half d c ≡ 0 → d ≤ c → half d (c - d) ≡ 1
  back-high c e l = omega (arith, div-eq-sub-div {m = d} {n = c} z l)

-- ---- a round
-- A round exchanges rows that lie d apart: blocks of 2 d rows fill the table, and the mask has the columns that stand in first halves.
pub record Round (d m : ℕ) : Type 0 where
  pub some : 0 < d
  pub fills : side % (2 * d) ≡ 0
  pub small : m < 2 ^ 64
  pub mask : (c : ℕ) → c < side → bit_at m c ≡ 1 - half d c

-- whether d and m make a round
unfoldable pub is_round : ℕ → ℕ → Bool
is_round d m =
    ltb 0 d && (eqb (side % (2 * d)) 0 && (ltb m (2 ^ 64) && not (any side (λ c. not (eqb (m / 2 ^ c % 2) (1 - half d c))))))

pub round_is : (d m : ℕ) → is_round d m ≡ true → Round d m
unfolding is_round bit_at
round_is d m e =
    let wrong : ℕ → Bool = λ c. not (eqb (m / 2 ^ c % 2) (1 - half d c)) in
    let a = both (ltb 0 d) _ e in
    let b = both (eqb (side % (2 * d)) 0) _ a.1 in
    let c = both (ltb m (2 ^ 64)) (not (any side wrong)) b.1 in
    record {
      some = ltb-true 0 d a.0;
      fills = eqb-true (side % (2 * d)) 0 b.0;
      small = ltb-true m (2 ^ 64) c.0;
      mask = λ i l. eqb-true (m / 2 ^ i % 2) (1 - half d i) (not-false _ (any_false side i wrong (not-true _ c.1) l));
    }

module _ {d m : ℕ} (round : Round d m) where
  pub block_in : (k : ℕ) → k % (2 * d) ≡ 0 → k < side → k + 2 * d ≤ side
  block_in k e h =
      let q : ℕ = k / (2 * d) in
      let n : ℕ = side / (2 * d) in
      let at : q * (2 * d) ≡ k = begins d k e in
      let whole : n * (2 * d) ≡ side = begins d side round.fills in
      ⊎_elim (λ (l : q < n). omega (arith, row-end {v = q} {m = n} {size = side} (2 * d) (2 * d) l refl (omega arith)))
      (λ (l : n ≤ q). absurd (omega (arith, mul-le-mul_right {m = n} {n = q} (2 * d) l))) (lt-or_ge q n)

  pub apart : d < side
  apart = omega (arith, round.some, block_in 0 (zero-mod (2 * d)) (omega arith))

-- ---- one exchange: the two rows x and y, d apart, after it
-- the bits in which x, shifted down, and y differ, in the columns of the mask
abbrev pub crossing : ℕ → ℕ → ℕ → ℕ → ℕ
crossing d m x y = bit_and (bit_xor (x / 2 ^ d) y) m

abbrev pub low_of : ℕ → ℕ → ℕ → ℕ → ℕ
low_of d m x y = bit_xor x ((crossing d m x y * 2 ^ d) % 2 ^ 64)

abbrev pub high_of : ℕ → ℕ → ℕ → ℕ → ℕ
high_of d m x y = bit_xor y (crossing d m x y)

module _ {d m : ℕ} (round : Round d m) (x y : ℕ) where
  cross_bit : (c : ℕ) → bit_at (crossing d m x y) c ≡ min ((bit_at x (d + c) - bit_at y c) + (bit_at y c - bit_at x (d + c))) (bit_at m c)
  cross_bit c = rw (bit_at_and (bit_xor (x / 2 ^ d) y) m c, bit_at_xor (x / 2 ^ d) y c, bit_at_shr x d c)

  module _ (c : ℕ) (h : c < side) where
    low_kept : half d c ≡ 0 → bit_at (low_of d m x y) c ≡ bit_at x c
    low_kept e =
        ⊎_elim
        (λ (l : c < d).
        rw (bit_at_xor x ((crossing d m x y * 2 ^ d) % 2 ^ 64) c, bit_at_shl_below (crossing d m x y) d 64 c h l) (omega arith))
        (λ (l : d ≤ c).
        rw (bit_at_xor x ((crossing d m x y * 2 ^ d) % 2 ^ 64) c, bit_at_shl (crossing d m x y) d 64 c h l, cross_bit (c - d))
        (omega (arith, round.mask (c - d) (omega arith), back-high d round.some c e l)))
        (lt-or_ge c d)

    low_crossed : half d c ≡ 1 → bit_at (low_of d m x y) c ≡ bit_at y (c - d)
    low_crossed e =
        let b = back_low d round.some c e in
        let at : d + (c - d) ≡ c = omega (arith, b.0) in
        rw (bit_at_xor x ((crossing d m x y * 2 ^ d) % 2 ^ 64) c, bit_at_shl (crossing d m x y) d 64 c h b.0, cross_bit (c - d), at)
        (omega (arith, round.mask (c - d) (omega arith), b.1, bit_at_lt x c, bit_at_lt y (c - d)))

    high_kept : half d c ≡ 1 → bit_at (high_of d m x y) c ≡ bit_at y c
    high_kept e = rw (bit_at_xor y (crossing d m x y) c, cross_bit c) (omega (arith, round.mask c h))

    high_crossed : half d c ≡ 0 → bit_at (high_of d m x y) c ≡ bit_at x (d + c)
    high_crossed e =
        rw (bit_at_xor y (crossing d m x y) c, cross_bit c) (omega (arith, round.mask c h, bit_at_lt x (d + c), bit_at_lt y c))

  high_lt : y < 2 ^ 64 → high_of d m x y < 2 ^ 64
  high_lt h = xor_lt 64 y (crossing d m x y) h (masked_lt (bit_xor (x / 2 ^ d) y) m (2 ^ 64) round.small)

low-lt : (d m x y : ℕ) → x < 2 ^ 64 → low_of d m x y < 2 ^ 64
low-lt d m x y h = xor_lt 64 x ((crossing d m x y * 2 ^ d) % 2 ^ 64) h (mod-lt (crossing d m x y * 2 ^ d) (pow_pos 64))

-- ---- the loop over a block
-- of the block that begins at k, rows k to i - 1 are exchanged with those d behind them
pub record Crossed (d m k i : ℕ) (old now : List ℕ) : Type 0 where
  pub long : length now ≡ length old
  pub low : (r : ℕ) → k ≤ r → r < i → get_or now r 0 ≡ low_of d m (get_or old r 0) (get_or old (r + d) 0)
  pub high : (r : ℕ) → k ≤ r → r < i → get_or now (r + d) 0 ≡ high_of d m (get_or old r 0) (get_or old (r + d) 0)
  pub before : (r : ℕ) → r < k → get_or now r 0 ≡ get_or old r 0
  pub between : (r : ℕ) → i ≤ r → r < k + d → get_or now r 0 ≡ get_or old r 0
  pub after : (r : ℕ) → i + d ≤ r → get_or now r 0 ≡ get_or old r 0

pub crossed_none : (d m k : ℕ) (rows : List ℕ) → Crossed d m k k rows rows
crossed_none d m k rows =
    record {
      long = refl;
      low = λ r a b. absurd (omega arith);
      high = λ r a b. absurd (omega arith);
      before = λ r a. refl;
      between = λ r a b. refl;
      after = λ r a. refl;
    }

-- two rows set, and what the table then holds
module _ (now : List ℕ) (d i x y : ℕ) (z : 0 < d) (l : i + d < length now) where
  at_low : get_or (set (set now i x) (i + d) y) i 0 ≡ x
  at_low = get_or-set_other (set now i x) (i + d) i y 0 (omega arith) ∙ get_or-set_same now i x 0 (omega arith)

  at_high : get_or (set (set now i x) (i + d) y) (i + d) 0 ≡ y
  at_high = get_or-set_same (set now i x) (i + d) y 0 (omega (arith, length-set now i x))

  at_other : (r : ℕ) → r ≢ i → r ≢ i + d → get_or (set (set now i x) (i + d) y) r 0 ≡ get_or now r 0
  at_other r u v = get_or-set_other (set now i x) (i + d) r y 0 v ∙ get_or-set_other now i r x 0 u

pub crossed_more : (d m k i : ℕ) (old now : List ℕ) → 0 < d → k ≤ i → i < k + d → i + d < length now → Crossed d m k i old now →
    Crossed d m k (i + 1) old
    (set (set now i (low_of d m (get_or now i 0) (get_or now (i + d) 0))) (i + d) (high_of d m (get_or now i 0) (get_or now (i + d) 0)))
crossed_more d m k i old now z a b l p =
    let x = low_of d m (get_or now i 0) (get_or now (i + d) 0) in
    let y = high_of d m (get_or now i 0) (get_or now (i + d) 0) in
    let ex : x ≡ low_of d m (get_or old i 0) (get_or old (i + d) 0) = rw (p.between i (omega arith) b, p.after (i + d) (omega arith)) in
    let ey : y ≡ high_of d m (get_or old i 0) (get_or old (i + d) 0) = rw (p.between i (omega arith) b, p.after (i + d) (omega arith)) in
    let other = at_other now d i x y z l in
    record {
      long = length-set (set now i x) (i + d) y ∙ (length-set now i x ∙ p.long);
      low = λ r u v.
          ⊎_elim (λ (q : r ≡ i). rw q (at_low now d i x y z l ∙ ex))
          (λ (q : r < i). other r (omega arith) (omega arith) ∙ p.low r u q) (eq-or-lt_of_le (omega arith));
      high = λ r u v.
          ⊎_elim (λ (q : r ≡ i). rw q (at_high now d i x y z l ∙ ey))
          (λ (q : r < i). other (r + d) (omega arith) (omega arith) ∙ p.high r u q) (eq-or-lt_of_le (omega arith));
      before = λ r u. other r (omega arith) (omega arith) ∙ p.before r u;
      between = λ r u v. other r (omega arith) (omega arith) ∙ p.between r (omega arith) v;
      after = λ r u. other r (omega arith) (omega arith) ∙ p.after r (omega arith);
    }

pub crossed_done : (d m k i e : ℕ) (old now : List ℕ) → i ≤ e → e ≤ i → Crossed d m k i old now → Crossed d m k e old now
crossed_done d m k i e old now = reached (λ n. Crossed d m k n old now) i e

-- two rows that are zero stay so
cross_zero : (d m : ℕ) → crossing d m 0 0 ≡ 0
cross_zero d m = rw (zero-div (2 ^ d)) refl

low-zero : (d m : ℕ) → low_of d m 0 0 ≡ 0
low-zero d m = rw (cross_zero d m, zero-mul (2 ^ d)) refl

high_zero : (d m : ℕ) → high_of d m 0 0 ≡ 0
high_zero d m = rw (cross_zero d m) refl

-- in the block at row 0, the rows from n on of either half are zero
pub record Idle (d n : ℕ) (rows : List ℕ) : Type 0 where
  pub low : (r : ℕ) → n ≤ r → r < d → get_or rows r 0 ≡ 0
  pub high : (r : ℕ) → n ≤ r → r < d → get_or rows (r + d) 0 ≡ 0

pub idle_none : (d : ℕ) (rows : List ℕ) → Idle d d rows
idle_none d rows = record { low = λ r a b. absurd (omega arith); high = λ r a b. absurd (omega arith) }

pub idle_front : (d n : ℕ) (rows : List ℕ) → Front n rows → Idle d n rows
idle_front d n rows f = record { low = λ r a b. f.clear r a; high = λ r a b. f.clear (r + d) (omega arith) }

-- from the smaller of n and d on
pub idle_fewer : (d n m : ℕ) (rows : List ℕ) → m ≡ min n d → Front n rows → Idle d m rows
idle_fewer d n m rows e f =
    record { low = λ r a b. f.clear r (omega arith); high = λ r a b. f.clear (r + d) (omega arith) }

-- a table has no rows beyond its last
pub table-front : (rows : List ℕ) → Table rows → Front side rows
table-front rows t = record { clear = λ r a. get_or-eq_default rows 0 {n = r} (omega (arith, t.long)) }

-- so of that block, exchanged up to n, all rows are exchanged
crossed_idle : (d m n : ℕ) (old now : List ℕ) → n ≤ d → Idle d n old → Crossed d m 0 (0 + n) old now → Crossed d m 0 (0 + d) old now
crossed_idle d m n old now h f p =
    record {
      long = p.long;
      low = λ r a b.
          ⊎_elim (λ (l : r < n). p.low r a (omega arith))
          (λ (l : n ≤ r).
          p.between r (omega arith) b ∙ rw (f.low r l (omega arith), f.high r l (omega arith)) (sym (low-zero d m)))
          (lt-or_ge r n);
      high = λ r a b.
          ⊎_elim (λ (l : r < n). p.high r a (omega arith))
          (λ (l : n ≤ r).
          p.after (r + d) (omega arith) ∙ rw (f.low r l (omega arith), f.high r l (omega arith)) (sym (high_zero d m)))
          (lt-or_ge r n);
      before = p.before;
      between = λ r a b. absurd (omega arith);
      after = λ r a. p.after r (omega arith);
    }

-- ---- the loop over the blocks
-- A round exchanges the halves of row and column. The bit that it brings to row r and column c was in row `origin d r c` and, the two
-- being treated alike, in column `origin d c r`.
abbrev pub origin : ℕ → ℕ → ℕ → ℕ
origin d r c = r + half d c * d - half d r * d

-- the rows below k are exchanged
pub record Exchanged (d k : ℕ) (old now : List ℕ) : Type 0 where
  pub table : Table now
  pub new : (r c : ℕ) → r < k → c < side → bit_at (get_or now r 0) c ≡ bit_at (get_or old (origin d r c) 0) (origin d c r)
  pub rest : (r : ℕ) → k ≤ r → get_or now r 0 ≡ get_or old r 0

pub exchanged_none : (d : ℕ) (rows : List ℕ) → Table rows → Exchanged d 0 rows rows
exchanged_none d rows h = record { table = h; new = λ r c a b. absurd (omega arith); rest = λ r a. refl }

-- one block more
module _ {d m : ℕ} (round : Round d m) (k : ℕ) (old mid now : List ℕ) (e : k % (2 * d) ≡ 0) (p : Exchanged d k old mid)
    (q : Crossed d m k (k + d) mid now) where
  first : (r : ℕ) → k ≤ r → r < k + d → get_or now r 0 ≡ low_of d m (get_or old r 0) (get_or old (r + d) 0)
  first r a b = rw (q.low r a b, p.rest r a, p.rest (r + d) (omega arith))

  second : (r : ℕ) → k ≤ r → r < k + d → get_or now (r + d) 0 ≡ high_of d m (get_or old r 0) (get_or old (r + d) 0)
  second r a b = rw (q.high r a b, p.rest r a, p.rest (r + d) (omega arith))

  first_bit : (r c : ℕ) → k ≤ r → r < k + d → c < side → bit_at (get_or now r 0) c ≡ bit_at (get_or old (origin d r c) 0) (origin d c r)
  first_bit r c a b l =
      let s : half d r ≡ 0 = first-half d k e r a b in
      ⊎_elim
      (λ (t : half d c ≡ 0).
      let u : r + 0 * d - 0 * d ≡ r = omega arith in
      let v : c + 0 * d - 0 * d ≡ c = omega arith in
      rw (first r a b, s, t, u, v) (low_kept round (get_or old r 0) (get_or old (r + d) 0) c l t))
      (λ (t : half d c ≡ 1).
      let u : r + 1 * d - 0 * d ≡ r + d = omega arith in
      let v : c + 0 * d - 1 * d ≡ c - d = omega arith in
      rw (first r a b, s, t, u, v) (low_crossed round (get_or old r 0) (get_or old (r + d) 0) c l t))
      (half_of d c)

  second-bit : (r c : ℕ) → k ≤ r → r < k + d → c < side →
      bit_at (get_or now (r + d) 0) c ≡ bit_at (get_or old (origin d (r + d) c) 0) (origin d c (r + d))
  second-bit r c a b l =
      let s : half d (r + d) ≡ 1 = second-half d k e (r + d) (omega arith) (omega arith) in
      ⊎_elim
      (λ (t : half d c ≡ 0).
      let u : r + d + 0 * d - 1 * d ≡ r = omega arith in
      let v : c + 1 * d - 0 * d ≡ d + c = omega arith in
      rw (second r a b, s, t, u, v) (high_crossed round (get_or old r 0) (get_or old (r + d) 0) c l t))
      (λ (t : half d c ≡ 1).
      let u : r + d + 1 * d - 1 * d ≡ r + d = omega arith in
      let v : c + 1 * d - 1 * d ≡ c = omega arith in
      rw (second r a b, s, t, u, v) (high_kept round (get_or old r 0) (get_or old (r + d) 0) c l t))
      (half_of d c)

  -- a fact of every row: those before the block, in its first half, in its second, and behind it
  by_part : (P : ℕ → Type 0) → ((r : ℕ) → r < k → P r) → ((r : ℕ) → k ≤ r → r < k + d → P r) →
      ((r : ℕ) → k ≤ r → r < k + d → P (r + d)) → ((r : ℕ) → k + 2 * d ≤ r → P r) → (r : ℕ) → P r
  by_part P f g s t r =
      ⊎_elim (λ (u : r < k). f r u)
      (λ (u : k ≤ r).
      ⊎_elim (λ (v : r < k + d). g r u v)
      (λ (v : k + d ≤ r).
      ⊎_elim
      (λ (w : r < k + 2 * d).
      let is : r - d + d ≡ r = omega arith in
      subst P is (s (r - d) (omega arith) (omega arith)))
      (λ (w : k + 2 * d ≤ r). t r w) (lt-or_ge r (k + 2 * d)))
      (lt-or_ge r (k + d)))
      (lt-or_ge r k)

  pub exchanged_more : Exchanged d (k + 2 * d) old now
  exchanged_more =
      record {
        table = record {
          long = q.long ∙ p.table.long;
          words = by_part (λ r. get_or now r 0 < 2 ^ 64)
              (λ r a. rw (q.before r a) (p.table.words r))
              (λ r a b. rw (q.low r a b) (low-lt d m (get_or mid r 0) (get_or mid (r + d) 0) (p.table.words r)))
              (λ r a b. rw (q.high r a b) (high_lt round (get_or mid r 0) (get_or mid (r + d) 0) (p.table.words (r + d))))
              (λ r a. rw (q.after r (omega arith)) (p.table.words r));
        };
        new = λ r c a b.
            by_part (λ r. r < k + 2 * d → bit_at (get_or now r 0) c ≡ bit_at (get_or old (origin d r c) 0) (origin d c r))
            (λ r u v. rw (q.before r u) (p.new r c u b))
            (λ r u v w. first_bit r c u v b)
            (λ r u v w. second-bit r c u v b)
            (λ r u v. absurd (omega arith)) r a;
        rest = λ r a. q.after r (omega arith) ∙ p.rest r (omega arith);
      }

pub exchanged_done : (d k : ℕ) (old now : List ℕ) → k ≤ side → side ≤ k → Exchanged d k old now → Exchanged d side old now
exchanged_done d k old now = reached (λ n. Exchanged d n old now) k side

-- the first round is one block, which fills the table
pub first_exchanged : {m : ℕ} (n : ℕ) (old now : List ℕ) → Round 32 m → n ≤ 32 → Table old → Idle 32 n old →
    Crossed 32 m 0 (0 + n) old now → Exchanged 32 side old now
first_exchanged {m} n old now round h t f p =
    exchanged_more round 0 old old now (zero-mod 64) (exchanged_none 32 old t) (crossed_idle 32 m n old now h f p)

-- of a table whose rows from `set` on are zero
pub first_front : {m : ℕ} (set n : ℕ) (old now : List ℕ) → Round 32 m → n ≡ min set 32 → Table old → Front set old →
    Crossed 32 m 0 (0 + n) old now → Exchanged 32 side old now
first_front {m} set n old now round e t f p =
    first_exchanged n old now round (omega arith) t (idle_fewer 32 set n old e f) p

-- ---- six rounds
-- one round after another, the last first
data Rounds : List ℕ → List ℕ → List ℕ → Type 0 where
  start : {a : List ℕ} → Rounds [] a a
  then : {d : ℕ} {ds a b c : List ℕ} → Rounds ds a b → Exchanged d side b c → Rounds (d ∷ ds) a c

-- whether the bit that they bring to row r' and column c' is that of row c and column r, inside the table all the way
ends : List ℕ → ℕ → ℕ → ℕ → ℕ → Bool
ends [] r c r' c' = eqb r' c && eqb c' r
ends (d ∷ ds) r c r' c' = ltb (origin d r' c') side && (ltb (origin d c' r') side && ends ds r c (origin d r' c') (origin d c' r'))

rounds_bit : {ds a z : List ℕ} → Rounds ds a z → (r c r' c' : ℕ) → r' < side → c' < side → ends ds r c r' c' ≡ true →
    bit_at (get_or z r' 0) c' ≡ bit_at (get_or a c 0) r
unfolding ends
rounds_bit start r c r' c' h l e =
    let t = both (eqb r' c) (eqb c' r) e in
    rw (eqb-true r' c t.0, eqb-true c' r t.1)
rounds_bit (then {d} {ds} before x) r c r' c' h l e =
    let t = both (ltb (origin d r' c') side) _ e in
    let u = both (ltb (origin d c' r') side) (ends ds r c (origin d r' c') (origin d c' r')) t.1 in
    let row = ltb-true (origin d r' c') side t.0 in
    let column = ltb-true (origin d c' r') side u.0 in
    x.new r' c' h l ∙ rounds_bit before r c (origin d r' c') (origin d c' r') row column u.1

-- whether a bit of row r comes from elsewhere
misplaced : ℕ → Bool
misplaced r = any side (λ c. not (ends (1 ∷ 2 ∷ 4 ∷ 8 ∷ 16 ∷ 32 ∷ []) r c r c))

-- none is: the one table, computed at all 4,096 places
none-misplaced : any side misplaced ≡ false
unfolding any misplaced ends
none-misplaced = refl

module _ {a b c d e f g : List ℕ} (r32 : Exchanged 32 side a b) (r16 : Exchanged 16 side b c) (r8 : Exchanged 8 side c d)
    (r4 : Exchanged 4 side d e) (r2 : Exchanged 2 side e f) (r1 : Exchanged 1 side f g) where
  six : Rounds (1 ∷ 2 ∷ 4 ∷ 8 ∷ 16 ∷ 32 ∷ []) a g
  six = then (then (then (then (then (then start r32) r16) r8) r4) r2) r1

  six-bit : (r c : ℕ) → r < side → c < side → bit_at (get_or g r 0) c ≡ bit_at (get_or a c 0) r
  unfolding misplaced
  six-bit r c h l = rounds_bit six r c r c h l (not-false _ (any_false side c _ (any_false side r misplaced none-misplaced h) l))

  pub six_transpose : g ≡ transposed a
  unfolding transposed
  six_transpose =
      ext_get_or 0 g (transposed a) (r1.table.long ∙ sym (length-upto side _))
      (λ r h.
      let inside : r < side = omega (arith, r1.table.long) in
      sym (pack-bits side (get_or g r 0) (r1.table.words r)) ∙
      (pack-eq side (bit_at (get_or g r 0)) (λ c. bit_at (get_or a c 0) r) (λ c l. six-bit r c inside l) ∙ sym (transposed-row a r inside)))
