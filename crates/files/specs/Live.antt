-- T at most 2^n, decided column by column with no number above twice the rows. Assumes nothing.
use Prim.Native.Nat.{ℕ, zero, suc, ◌+◌, ◌*◌, ◌-◌, ◌/◌, ◌%◌, ◌^◌, ◌≤◌, ◌<◌, min}
use Rattle.std.specs.Prelude.{◌≡◌, refl, Bool, true, false, ◌&&◌, List, leb, get_or}
use Rattle.std.proofs.Common.{sym, ap, ◌∙◌, ⊎_elim, one-mul, le_of_mul-le-mul_right, mul-le-mul_right, le-leb, pow_pos}
use native.Mathlib.Omega.{arith}
use Rattle.std.proofs.Math.Nat.{pow-succ', le_dest, sub-zero, min-eq_left, min-le_right}
use Rattle.std.proofs.Math.Numerals.{add-one}
use Rattle.std.proofs.lemmas.Bool.{lt-leb}
use Rattle.std.specs.Int.Bits.{bit_and, and_mask}
use Rattle.laws.specs.Tests.{lt-or_ge}
use Rattle.laws.specs.Sums.{sum_to, sum-eq, sum-le, sum_same, sum_plus, sum-times}
use Rattle.laws.specs.Digits.{number, number_shift, digit}
use Rattle.fields.specs.Fields.{packed_bit}
use Rattle.files.specs.Matrix.{ones_in}

-- the sum of the m rows, each read from column c on for k columns
unfoldable pub total_from : (ℕ → ℕ → ℕ) → ℕ → ℕ → ℕ → ℕ
total_from bit m c k = sum_to m (λ v. number (bit v) c k)

-- whether T is at most 2^n, of m rows of n bits that are packed `per` to a byte, row v from byte v * stride on
abbrev pub rows_fit : List ℕ → ℕ → ℕ → ℕ → ℕ → Bool
rows_fit bytes per stride m n = leb (total_from (λ v. packed_bit per bytes (v * stride)) m 0 n) (2 ^ n)

-- whether k columns from column c on have room, with h places of the tree open before them
unfoldable pub live : (ℕ → ℕ → ℕ) → ℕ → ℕ → ℕ → ℕ → Bool
live bit m c h zero = true
live bit m c h (suc k) = leb (ones_in bit m c) (2 * h) && live bit m (suc c) (min (2 * h - ones_in bit m c) m) k

-- rows that are all there, in `size` bytes
pub record There (per stride m n size : ℕ) : Type 0 where
  pub some : 0 < per
  pub bits : per ≤ 8
  pub some_rows : 1 ≤ m
  pub few_rows : m ≤ 65535
  pub within : (v c : ℕ) → v < m → c < n → v * stride + c / per < size

-- ---- live is T at most 2^n
-- the total splits off its first column
pub total_step : (bit : ℕ → ℕ → ℕ) (m c k : ℕ) → total_from bit m c (suc k) ≡ ones_in bit m c * 2 ^ k + total_from bit m (suc c) k
unfolding total_from number ones_in
total_step bit m c k =
    omega (
      arith,
      sum_plus m (λ v. number (bit v) c (suc k)) (λ v. bit v c * 2 ^ k) (λ v. number (bit v) (suc c) k) (λ v. refl),
      sum-times m (λ v. bit v c) (2 ^ k),
    )

-- 2 * h - w places stay open, and what they have to cover is what h had to, less the column's share
pub go_on : (w h t k s : ℕ) → h * 2 ^ suc k ≡ w * 2 ^ k + t + s → (x : ℕ) × (w + x ≡ 2 * h) × (x * 2 ^ k ≡ t + s)
go_on w h t k s e =
    let e' : 2 * h * 2 ^ k ≡ w * 2 ^ k + t + s = omega (arith, rw (pow-succ' 2 k) at e) in
    let l : w ≤ 2 * h = le_of_mul-le-mul_right {k = 2 ^ k} (omega arith) (pow_pos k) in
    let x = le_dest l in
    (x.0, x.1, omega (arith, ap (λ (y : ℕ). y * 2 ^ k) x.1))

cap_on : (m w h H : ℕ) → w ≤ m → min h m ≡ min H m → min (2 * h - w) m ≡ min (2 * H - w) m
cap_on m w h H l e = omega arith

-- no room with h places open is none with H
none_open : (m w t h H q : ℕ) → w ≤ m → min h m ≡ min H m → 2 * h < w → 0 < q → H * (2 * q) < w * q + t
none_open m w t h H q l e b z =
    let over : 2 * H < w = omega arith in
    omega (arith, mul-le-mul_right {m = suc (2 * H)} {n = w} q over)

fits_on : (w t H q x : ℕ) → w + x ≡ 2 * H → leb t (x * q) ≡ leb (w * q + t) (H * (2 * q))
fits_on w t H q x e =
    let split : w * q + x * q ≡ 2 * H * q = omega (arith, ap (λ (z : ℕ). z * q) e) in
    ⊎_elim (λ (l : x * q < t). lt-leb t (x * q) l ∙ sym (lt-leb (w * q + t) (H * (2 * q)) (omega arith)))
    (λ (l : t ≤ x * q). le-leb t (x * q) l ∙ sym (le-leb (w * q + t) (H * (2 * q)) (omega arith))) (lt-or_ge (x * q) t)

-- the cap at m loses nothing that a later column can see
live-leb : (bit : ℕ → ℕ → ℕ) (m k c h H : ℕ) → ((v i : ℕ) → v < m → c ≤ i → i < c + k → bit v i ≤ 1) → min h m ≡ min H m →
    live bit m c h k ≡ leb (total_from bit m c k) (H * 2 ^ k)
unfolding live ones_in total_from number
live-leb bit m zero c h H ok e = sym (le-leb (total_from bit m c 0) (H * 2 ^ 0) (omega (arith, sum_same m 0 (λ v. 0) (λ v. refl))))
live-leb bit m (suc k) c h H ok e =
    let w : ℕ = ones_in bit m c in
    let few : w ≤ m = omega (arith, sum-le m 1 (λ v. bit v c) (λ v l. ok v c l (omega arith) (omega arith))) in
    rw (total_step bit m c k, pow-succ' 2 k)
    (⊎_elim
    (λ (b : 2 * h < w).
    rw (lt-leb w (2 * h) b) (sym (lt-leb _ _ (none_open m w (total_from bit m (suc c) k) h H (2 ^ k) few e b (pow_pos k)))))
    (λ (b : w ≤ 2 * h).
    rw (le-leb w (2 * h) b)
    (live-leb bit m k (suc c) (min (2 * h - w) m) (2 * H - w) (λ v i l a b. ok v i l (omega arith) (omega arith))
    (min-eq_left (min-le_right (2 * h - w) m) ∙ cap_on m w h H few e) ∙
    fits_on w (total_from bit m (suc c) k) H (2 ^ k) (2 * H - w) (omega arith)))
    (lt-or_ge (2 * h) w))

-- every column has room exactly when the rows sum to at most 2^n, for every m and n
pub live-is : (bit : ℕ → ℕ → ℕ) (m n : ℕ) → ((v c : ℕ) → v < m → c < n → bit v c ≤ 1) →
    live bit m 0 1 n ≡ leb (total_from bit m 0 n) (2 ^ n)
live-is bit m n ok = live-leb bit m n 0 1 1 (λ v i l a b. ok v i l (omega arith)) refl ∙ ap (leb (total_from bit m 0 n)) (one-mul (2 ^ n))

-- ---- the same in the words of a loop over the columns: what is left from here on is what the whole comes to
module _ (bit : ℕ → ℕ → ℕ) (m n : ℕ) (whole : Bool) where
  unfoldable pub Open : ℕ → ℕ → Type 0
  Open c h = live bit m c h (n - c) ≡ whole

  pub open_full : (c h w : ℕ) → c < n → w ≡ ones_in bit m c → 2 * h < w → Open c h → false ≡ whole
  unfolding Open live
  open_full c h w l e b o =
      let q : n - c ≡ suc (n - (c + 1)) = omega arith in
      rw (lt-leb (ones_in bit m c) (2 * h) (omega arith)) at (rw q at o)

  pub open_next : (c h w : ℕ) → c < n → w ≡ ones_in bit m c → w ≤ 2 * h → Open c h → Open (c + 1) (min (2 * h - w) m)
  unfolding Open live
  open_next c h w l e b o =
      let q : n - c ≡ suc (n - (c + 1)) = omega arith in
      rw (e, add-one c) (rw (add-one c) at (rw (le-leb (ones_in bit m c) (2 * h) (omega arith)) at (rw q at o)))

  pub open_done : (c h : ℕ) → n ≤ c → Open c h → true ≡ whole
  unfolding Open live
  open_done c h l o =
      let q : n - c ≡ 0 = omega arith in
      rw q at o

pub open_first : (bit : ℕ → ℕ → ℕ) (m n : ℕ) → ((v c : ℕ) → v < m → c < n → bit v c ≤ 1) →
    Open bit m n (leb (total_from bit m 0 n) (2 ^ n)) 0 1
unfolding Open
open_first bit m n ok = rw (sub-zero n) (live-is bit m n ok)

-- ---- a column, as it is read
pub column_read : (bytes : List ℕ) (per stride c v : ℕ) →
    bit_and (get_or bytes (v * stride + c / per) 0 / 2 ^ (per - 1 - c % per)) 1 ≡ packed_bit per bytes (v * stride) c
unfolding packed_bit digit
column_read bytes per stride c v = and_mask (get_or bytes (v * stride + c / per) 0 / 2 ^ (per - 1 - c % per)) 1

-- ---- what depends on the bits of the m rows and n columns alone
module _ (f g : ℕ → ℕ → ℕ) (m n : ℕ) (same : (v c : ℕ) → v < m → c < n → f v c ≡ g v c) where
  pub ones-eq : (r c : ℕ) → r ≤ m → c < n → ones_in f r c ≡ ones_in g r c
  unfolding ones_in
  ones-eq r c a h = sum-eq r (λ v. f v c) (λ v. g v c) (λ v l. same v c (omega arith) h)

  pub total-eq : (c : ℕ) → c ≤ n → total_from f m 0 c ≡ total_from g m 0 c
  unfolding total_from
  total-eq c h =
      sum-eq m (λ v. number (f v) 0 c) (λ v. number (g v) 0 c)
      (λ v l. number_shift (f v) (g v) 0 0 c (λ i b. same v (0 + i) l (omega arith)))
