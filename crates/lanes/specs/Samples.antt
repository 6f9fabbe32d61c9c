-- 01, "Runs, words, samples", with 02, order 10: what a lane of the outputs gives, of so many rows, and how samples and signed samples
-- write it. Assumes nothing.
use Prim.Native.Nat.{ℕ, zero, suc, ◌+◌, ◌-◌, ◌*◌, ◌%◌, ◌^◌, min, max, ◌≤◌, ◌<◌}
use Rattle.std.specs.Prelude.{◌≡◌, refl, Bool, true, false, not, cond, List, ◌⊎◌, eqb, ltb, ℤ, pos, negsuc, neg_ℤ, ◌+ℤ◌, ◌-ℤ◌, get_or, set}
use Rattle.std.specs.Prelude.{take, drop}
use Rattle.std.proofs.Common.{sym, ◌∙◌, subst, ⊎_elim, eq-or-lt_of_le, mul-le-mul_left, mul-one, mul-zero, one-mul, zero-mul, SFits, to_z}
use Rattle.std.proofs.Common.{of_z, lit<, get_or-set_same, get_or-set_other, get_or-drop, length-drop}
use Rattle.std.proofs.Math.Path.{ap}
use Rattle.std.proofs.Math.Logic.{inl, inr}
use native.Mathlib.Omega.{arith}
use borrow.Author.Tests.{lt-ltb, le-ltb}
use Rattle.std.proofs.Math.Facts.{to_z_pos}
use Rattle.std.specs.Int.{w16}
use Rattle.std.specs.Int.Bits.{bit_and, bit_or}
use Rattle.std.proofs.lemmas.Nat.{or_lt}
use Rattle.std.proofs.Math.IntN.{+ℤ_idl, +ℤ_idr}
use Rattle.std.proofs.Math.ListN.{length, get_or-eq_default}
use Rattle.laws.specs.Tests.{reached, zero-or_one}
use Rattle.laws.specs.Words.{kept, bit_at, pack, bit_at_lt, bit_at_zero, bit_at_and, bit_at_or, bit_at_not, bit_at_pack}
use Rattle.laws.specs.Words.{masked_lt, pack-bits, pack-eq, pack-lt, pack-mod, pack-ones, pack-short}
use Rattle.laws.specs.Lists.{upto, rest_is}
use Rattle.laws.specs.Lay.{lay, lay-is, Laid, upto_done}
use Rattle.laws.specs.Outcome.{Outcome, refused, gives, refuse, mapped, laid, ◌>>◌, ends-refused, ends-given}
use Rattle.programs.specs.Width.{row_bits, row_lt}
use Rattle.programs.specs.Limits.{most_outputs, suited}
use Rattle.programs.specs.Reading.{suited_means}
use Rattle.walk.specs.Walk.{Answer, sample, missed}
use Rattle.lanes.specs.Transposing.{side, front, transposed, transposed-row, Table, Front, table-set, front-set}
use Rattle.lanes.specs.Slicing.{lanes}

-- whether bit j of output 0 is set
unfoldable pub lane_hits : List ℕ → ℕ → Bool
lane_hits outputs j = eqb (bit_at (get_or outputs 0 0) j) 1

-- the number that bit j of outputs 1 and up spells, lowest first
unfoldable pub spelled : List ℕ → ℕ → ℕ
spelled outputs j = pack (length outputs - 1) (λ t. bit_at (get_or outputs (t + 1) 0) j)

-- If bit j of output 0 is set, lane j says the sample that bit j of outputs 1 and up spells; if not, it misses.
unfoldable pub lane_says : List ℕ → ℕ → Answer
lane_says outputs j = cond (lane_hits outputs j) (sample (spelled outputs j)) missed

-- a number that is not below rows is a miss (02, order 10)
unfoldable pub below_rows : ℕ → Answer → Answer
below_rows rows (sample x) = cond (ltb x rows) (sample x) missed
below_rows rows missed = missed

-- what lane j gives, of so many rows
unfoldable pub sample_of : ℕ → List ℕ → ℕ → Answer
sample_of rows outputs j = below_rows rows (lane_says outputs j)

-- as a sample: the number, or 255
abbrev pub code : Answer → ℕ
code (sample x) = x
code missed = 255

-- x, negated if the bit is set
abbrev pub negated_if : ℕ → ℕ → ℤ
negated_if bit x = cond (eqb bit 1) (neg_ℤ (pos x)) (pos x)

-- as a signed sample: the number, negated if the lane's bit of the sign word is set, or 32,767
abbrev pub signed_code : ℕ → Answer → ℤ
signed_code bit (sample x) = negated_if bit x
signed_code bit missed = pos 32767

-- reading a number from each lane of the outputs into a buffer of `room` places: the 64 numbers that are laid down
unfoldable pub each_lane : {A : Type 0} → ℕ → List ℕ → ℕ → (ℕ → A) → Outcome (List A)
each_lane rows outputs room number = do
  refuse 3 (not (suited rows (length outputs)))
  refuse 13 (ltb room lanes)
  gives (upto lanes number)

-- a way of writing what a lane gives, with its bit of the sign word
abbrev pub Coding : Type 0 → Type 0
Coding A = ℕ → Answer → A

-- reading with such a way of writing, and a sign word
abbrev pub read_of : {A : Type 0} → Coding A → ℕ → List ℕ → ℕ → ℕ → Outcome (List A)
read_of code rows outputs sign room = each_lane rows outputs room (λ j. code (bit_at sign j) (sample_of rows outputs j))

-- reading samples: refusal 3 or 13, or the samples
abbrev pub samples_of : ℕ → List ℕ → ℕ → Outcome (List ℕ)
samples_of rows outputs room = each_lane rows outputs room (λ j. code (sample_of rows outputs j))

-- reading signed samples, with a sign word
abbrev pub signed_samples_of : ℕ → List ℕ → ℕ → ℕ → Outcome (List ℤ)
signed_samples_of rows outputs sign room = each_lane rows outputs room (λ j. signed_code (bit_at sign j) (sample_of rows outputs j))

-- ---- the ways through the checks
module _ {A : Type 0} (rows : ℕ) (outputs : List ℕ) (room : ℕ) (number : ℕ → A) where
  pub lanes-size : suited rows (length outputs) ≡ false → each_lane rows outputs room number ≡ refused 3
  unfolding each_lane
  lanes-size a = rw a

  pub lanes-short : suited rows (length outputs) ≡ true → room < lanes → each_lane rows outputs room number ≡ refused 13
  unfolding each_lane
  lanes-short a b = rw (a, lt-ltb room lanes b)

  pub lanes_give : suited rows (length outputs) ≡ true → lanes ≤ room → each_lane rows outputs room number ≡ gives (upto lanes number)
  unfolding each_lane
  lanes_give a b = rw (a, le-ltb room lanes b)

-- the ways in which code that reads each lane ends: its answer, and what the buffer then holds
module _ {A : Type 0} (rows : ℕ) (outputs : List ℕ) (buf : List A) (number : ℕ → A) where
  abbrev pub Ends : Outcome (Unit {0}) → List A → Type 0
  Ends answer now =
      let o = each_lane rows outputs (length buf) number in
      (answer ≡ mapped (λ xs. tt) o) × (now ≡ lay (laid (λ xs. xs) o) buf)

  stops : (n : ℕ) → each_lane rows outputs (length buf) number ≡ refused n → Ends (refused n) buf
  stops n e = ends-refused (λ xs. tt) (λ xs. xs) n (each_lane rows outputs (length buf) number) buf e

  pub reads_unsuited : suited rows (length outputs) ≡ false → Ends (refused 3) buf
  reads_unsuited a = stops 3 (lanes-size rows outputs (length buf) number a)

  module _ (a : suited rows (length outputs) ≡ true) where
    pub reads_short : length buf < lanes → Ends (refused 13) buf
    reads_short c = stops 13 (lanes-short rows outputs (length buf) number a c)

    pub reads_all : lanes ≤ length buf → (j : ℕ) (now : List A) → j ≤ lanes → lanes ≤ j → Laid 0 (upto j number) buf now →
        Ends (gives tt) now
    reads_all c j now d e l =
        ends-given (λ xs. tt) (λ xs. xs) (upto lanes number) tt (each_lane rows outputs (length buf) number) buf now
        (lanes_give rows outputs (length buf) number a c) refl (upto_done 0 j lanes number buf now d e l ∙ lay-is (upto lanes number) buf)

-- ---- the lanes that give a sample, as a word: numbers are compared with rows - 1 in all lanes at once, bit by bit
-- the bit tells whether p is at most q
abbrev pub AtMost : ℕ → ℕ → ℕ → Type 0
AtMost bit p q = ((bit ≡ 1) × (p ≤ q)) ⊎ ((bit ≡ 0) × (q < p))

-- bit t of the number in lane j
abbrev number_bit : List ℕ → ℕ → ℕ → ℕ
number_bit outputs j t = bit_at (get_or outputs (t + 1) 0) j

-- the lanes whose lowest t bits are at most those of `last`
pub record Compared (outputs : List ℕ) (last t word : ℕ) : Type 0 where
  pub small : word < 2 ^ 64
  pub lane : (j : ℕ) → j < lanes → AtMost (bit_at word j) (pack t (number_bit outputs j)) (pack t (bit_at last))

-- the lanes whose number is below rows
pub record Below (rows : ℕ) (outputs : List ℕ) (word : ℕ) : Type 0 where
  pub lane : (j : ℕ) → j < lanes → AtMost (bit_at word j) (spelled outputs j) (rows - 1)

-- the lanes that give a sample
pub record Given (rows : ℕ) (outputs : List ℕ) (word : ℕ) : Type 0 where
  pub lane : (j : ℕ) → j < lanes →
      ((bit_at word j ≡ 1) × (sample_of rows outputs j ≡ sample (spelled outputs j))) ⊎
      ((bit_at word j ≡ 0) × (sample_of rows outputs j ≡ missed))

-- one bit more, above n: x of p and b of q. Where b is 1, a lane passes by x = 0; where it is 0, it fails by x = 1.
module _ (bit x p q n : ℕ) (h : x < 2) (u : p < n) (v : q < n) (e : AtMost bit p q) where
  more_set : AtMost (max bit (1 - x)) (x * n + p) (1 * n + q)
  more_set = go x h e
    where
      go : (x : ℕ) → x < 2 → AtMost bit p q → AtMost (max bit (1 - x)) (x * n + p) (1 * n + q)
      go zero h (inl k) = inl (omega arith, omega (arith, zero-mul n, one-mul n))
      go zero h (inr k) = inl (omega arith, omega (arith, zero-mul n, one-mul n))
      go (suc zero) h (inl k) = inl (omega arith, omega arith)
      go (suc zero) h (inr k) = inr (omega arith, omega arith)
      go (suc (suc x)) h k = absurd (omega arith)

  more_clear : AtMost (min bit (1 - x)) (x * n + p) (0 * n + q)
  more_clear = go x h e
    where
      go : (x : ℕ) → x < 2 → AtMost bit p q → AtMost (min bit (1 - x)) (x * n + p) (0 * n + q)
      go zero h (inl k) = inl (omega arith, omega arith)
      go zero h (inr k) = inr (omega arith, omega arith)
      go (suc zero) h k = inr (omega arith, omega (arith, zero-mul n, one-mul n))
      go (suc (suc x)) h k = absurd (omega arith)

module _ (outputs : List ℕ) (last : ℕ) where
  pub compared_none : Compared outputs last 0 (2 ^ 64 - 1)
  unfolding pack
  compared_none =
      record {
        small = omega arith;
        lane = λ j l. inl (bit_at_not 64 0 j (omega arith) l ∙ ap (λ (b : ℕ). 1 - b) (bit_at_zero j), omega arith);
      }

  module _ (t word x : ℕ) (e : x ≡ get_or outputs (t + 1) 0) (l : x < 2 ^ 64) (k : Compared outputs last t word) where
    more : (b w : ℕ) → bit_at last t ≡ b →
        ((j : ℕ) → j < lanes →
        AtMost (bit_at w j) (number_bit outputs j t * 2 ^ t + pack t (number_bit outputs j)) (b * 2 ^ t + pack t (bit_at last))) →
        w < 2 ^ 64 → Compared outputs last (t + 1) w
    unfolding pack
    more b w q c s =
        let next : t + 1 ≡ suc t = omega arith in
        record { small = s; lane = rw (next, q) c }

    numbers-lt : (j : ℕ) → pack t (number_bit outputs j) < 2 ^ t
    numbers-lt j = pack-lt t (number_bit outputs j) (λ i m. bit_at_lt (get_or outputs (i + 1) 0) j)

    last-lt : pack t (bit_at last) < 2 ^ t
    last-lt = pack-lt t (bit_at last) (λ i m. bit_at_lt last i)

    -- a set bit of `last`
    compared_set : bit_at last t ≡ 1 → Compared outputs last (t + 1) (bit_or word ((2 ^ 64 - 1) - x))
    compared_set q =
        more 1 (bit_or word ((2 ^ 64 - 1) - x)) q
        (λ j m. rw (bit_at_or word ((2 ^ 64 - 1) - x) j, bit_at_not 64 x j l m, e)
        (more_set (bit_at word j) (number_bit outputs j t) _ _ (2 ^ t) (bit_at_lt (get_or outputs (t + 1) 0) j) (numbers-lt j) last-lt
        (k.lane j m)))
        (or_lt 64 word ((2 ^ 64 - 1) - x) k.small (omega arith))

    -- a clear one
    compared_clear : bit_at last t ≡ 0 → Compared outputs last (t + 1) (bit_and word ((2 ^ 64 - 1) - x))
    compared_clear q =
        more 0 (bit_and word ((2 ^ 64 - 1) - x)) q
        (λ j m. rw (bit_at_and word ((2 ^ 64 - 1) - x) j, bit_at_not 64 x j l m, e)
        (more_clear (bit_at word j) (number_bit outputs j t) _ _ (2 ^ t) (bit_at_lt (get_or outputs (t + 1) 0) j) (numbers-lt j) last-lt
        (k.lane j m)))
        (masked_lt word ((2 ^ 64 - 1) - x) (2 ^ 64) (omega arith))

    pub compared_more : (b w : ℕ) → b ≡ bit_at last t →
        w ≡ cond (eqb b 1) (bit_or word ((2 ^ 64 - 1) - x)) (bit_and word ((2 ^ 64 - 1) - x)) → Compared outputs last (t + 1) w
    compared_more b w q r =
        ⊎_elim (λ (z : b ≡ 0). subst (Compared outputs last (t + 1)) (sym (r ∙ rw z)) (compared_clear (sym q ∙ z)))
        (λ (z : b ≡ 1). subst (Compared outputs last (t + 1)) (sym (r ∙ rw z)) (compared_set (sym q ∙ z)))
        (zero-or_one b (omega (arith, bit_at_lt last t)))

-- the outputs behind the first, as a loop over them has them: how many they are, and each of them
pub others-long : (outputs : List ℕ) → length (take (length outputs - 1) (drop 1 outputs)) ≡ length outputs - 1
others-long outputs = ap length (rest_is 1 outputs) ∙ length-drop 1 outputs

pub others_are : (outputs : List ℕ) (t : ℕ) → get_or (take (length outputs - 1) (drop 1 outputs)) t 0 ≡ get_or outputs (t + 1) 0
others_are outputs t =
    ap (λ (xs : List ℕ). get_or xs t 0) (rest_is 1 outputs) ∙
    (get_or-drop 1 outputs t 0 ∙ ap (λ (i : ℕ). get_or outputs i 0) (omega arith))

-- all bits are compared: those of rows - 1 are no more than the outputs have
pub compared_done : (rows : ℕ) (outputs : List ℕ) (t word : ℕ) → suited rows (length outputs) ≡ true → t ≤ length outputs - 1 →
    length outputs - 1 ≤ t → Compared outputs (rows - 1) t word → Below rows outputs word
unfolding spelled
compared_done rows outputs t word s a b k =
    let m = suited_means rows (length outputs) s in
    let bits : t ≡ row_bits rows = omega (arith, m.2) in
    let whole : pack t (bit_at (rows - 1)) ≡ rows - 1 = pack-bits t (rows - 1) (rw bits (row_lt rows (rows - 1) (omega (arith, m.0)))) in
    let is : t ≡ length outputs - 1 = omega arith in
    record { lane = λ j l. rw (whole, is) at (k.lane j l) }

-- of the lanes whose number is below rows, those that output 0 has give a sample
module _ (rows : ℕ) (outputs : List ℕ) (some : 1 ≤ rows) where
  given-lane : (j hit bit : ℕ) → bit_at (get_or outputs 0 0) j ≡ hit → hit < 2 → AtMost bit (spelled outputs j) (rows - 1) →
      ((min hit bit ≡ 1) × (sample_of rows outputs j ≡ sample (spelled outputs j))) ⊎
      ((min hit bit ≡ 0) × (sample_of rows outputs j ≡ missed))
  unfolding sample_of lane_says lane_hits below_rows
  given-lane j zero bit q h c = inr (omega arith, rw q)
  given-lane j (suc zero) bit q h (inl c) = inl (omega arith, rw (q, lt-ltb (spelled outputs j) rows (omega arith)))
  given-lane j (suc zero) bit q h (inr c) = inr (omega arith, rw (q, le-ltb (spelled outputs j) rows (omega arith)))
  given-lane j (suc (suc n)) bit q h c = absurd (omega arith)

  pub given-lanes : (hits word : ℕ) → hits ≡ get_or outputs 0 0 → Below rows outputs word → Given rows outputs (bit_and hits word)
  given-lanes hits word e k =
      record {
        lane = λ j l.
            rw (bit_at_and hits word j, e)
            (given-lane j (bit_at (get_or outputs 0 0) j) (bit_at word j) refl (bit_at_lt (get_or outputs 0 0) j) (k.lane j l));
      }

-- ---- lanes as code reads them: output words as rows of a table, which is then transposed
-- what row t has for lane j, where the lanes in `hits` give a sample: bit t of the lane's number, and 1 where the lane misses
abbrev pub cell : List ℕ → ℕ → ℕ → ℕ → ℕ
cell outputs hits j t = max (number_bit outputs j t) (1 - bit_at hits j)

-- the first k rows have these cells, and those from `front` on are zero
pub record Cells (outputs : List ℕ) (hits k : ℕ) (rows : List ℕ) : Type 0 where
  pub table : Table rows
  pub clear : Front front rows
  pub cells : (t j : ℕ) → t < k → j < lanes → bit_at (get_or rows t 0) j ≡ cell outputs hits j t

-- 15 rows have them, and row 15 has the sign word's bits, 0 where the lane misses
pub record Spread (outputs : List ℕ) (hits sign : ℕ) (rows : List ℕ) : Type 0 where
  pub number : Cells outputs hits 15 rows
  pub signs : (j : ℕ) → j < lanes → bit_at (get_or rows 15 0) j ≡ min (bit_at sign j) (bit_at hits j)

-- an answer in k bits: its number, or for a miss the largest one
abbrev pub in_bits : ℕ → Answer → ℕ
in_bits k (sample x) = x
in_bits k missed = 2 ^ k - 1

-- its sign, where the lane's bit of the sign word is this one: a miss has none
abbrev pub sign_of : ℕ → Answer → ℕ
sign_of bit (sample x) = bit
sign_of bit missed = 0

-- what a lane gives, with its bit of the sign word, as its row has it: in the 15 lowest bits, of which the lowest 8 do, and then its sign
pub record LaneRow (bit : ℕ) (g : Answer) (row : ℕ) : Type 0 where
  pub number : (k : ℕ) → 8 ≤ k → k ≤ 15 → row % 2 ^ k ≡ in_bits k g
  pub sign : bit_at row 15 ≡ sign_of bit g

-- so of each row of the table, of m rows of a matrix
pub record LaneRows (m : ℕ) (outputs : List ℕ) (sign : ℕ) (rows : List ℕ) : Type 0 where
  pub lane : (j : ℕ) → j < lanes → LaneRow (bit_at sign j) (sample_of m outputs j) (get_or rows j 0)

-- ---- the rows, one after another
module _ (outputs : List ℕ) (hits : ℕ) where
  pub cells-none : (rows : List ℕ) → Table rows → Front front rows → Cells outputs hits 0 rows
  cells-none rows h f = record { table = h; clear = f; cells = λ t j a b. absurd (omega arith) }

  module _ (k x : ℕ) (rows : List ℕ) (l : x < 2 ^ 64) (p : Cells outputs hits k rows) where
    -- a row that was not yet set
    cells_kept : (at : ℕ) → k ≤ at → at < front → Cells outputs hits k (set rows at x)
    cells_kept at h b =
        record {
          table = table-set rows at x l p.table;
          clear = front-set rows front at x b p.clear;
          cells = λ t j u v. ap (λ (y : ℕ). bit_at y j) (get_or-set_other rows at t x 0 (omega arith)) ∙ p.cells t j u v;
        }

    cells-next : k < front → ((j : ℕ) → j < lanes → bit_at x j ≡ cell outputs hits j k) → Cells outputs hits (k + 1) (set rows k x)
    cells-next h e =
        record {
          table = table-set rows k x l p.table;
          clear = front-set rows front k x h p.clear;
          cells = λ t j u v.
              ⊎_elim (λ (q : t ≡ k). rw (q, get_or-set_same rows k x 0 (omega (arith, p.table.long))) (e j v))
              (λ (q : t < k). (cells_kept k (omega arith) h).cells t j q v) (eq-or-lt_of_le (omega arith));
        }

  module _ (m : hits < 2 ^ 64) where
    -- one turn: an output, or no output at all, and the lanes that miss
    pub cells_more : (k x : ℕ) (rows : List ℕ) → k < front → x ≡ get_or outputs (k + 1) 0 → x < 2 ^ 64 → Cells outputs hits k rows →
        Cells outputs hits (k + 1) (set rows k (bit_or x ((2 ^ 64 - 1) - hits)))
    cells_more k x rows h ex l p =
        cells-next k (bit_or x ((2 ^ 64 - 1) - hits)) rows (or_lt 64 x ((2 ^ 64 - 1) - hits) l (omega arith)) p h
        (λ j v. rw (bit_at_or x ((2 ^ 64 - 1) - hits) j, bit_at_not 64 hits j m v, ex))

    pub cells-done : (k sign : ℕ) (rows : List ℕ) → k ≤ 15 → 15 ≤ k → Cells outputs hits k rows →
        Spread outputs hits sign (set rows 15 (bit_and sign hits))
    cells-done k sign rows a b p =
        let all : Cells outputs hits 15 rows = reached (λ n. Cells outputs hits n rows) k 15 a b p in
        let small : bit_and sign hits < 2 ^ 64 = masked_lt sign hits (2 ^ 64) m in
        record {
          number = cells_kept 15 (bit_and sign hits) rows small all 15 (omega arith) (omega arith);
          signs = λ j v.
              rw (get_or-set_same rows 15 (bit_and sign hits) 0 (omega (arith, p.table.long)), bit_at_and sign hits j);
        }

-- ---- a lane's cells: a number of k bits, or for a miss the largest one; stated once over the width k
module _ (outputs : List ℕ) (hits j k : ℕ) where
  cells_miss : bit_at hits j ≡ 0 → pack k (cell outputs hits j) ≡ 2 ^ k - 1
  cells_miss e =
      pack-eq k (cell outputs hits j) (λ t. 1) (λ t l. omega (arith, bit_at_lt (get_or outputs (t + 1) 0) j)) ∙ pack-ones k

  cells-hit : bit_at hits j ≡ 1 → length outputs ≤ k + 1 → pack k (cell outputs hits j) ≡ spelled outputs j
  unfolding spelled
  cells-hit e h =
      let n : ℕ = length outputs - 1 in
      let is : k ≡ (k - n) + n = omega arith in
      pack-eq k (cell outputs hits j) (number_bit outputs j) (λ t l. omega arith) ∙
      (ap (λ (m : ℕ). pack m (number_bit outputs j)) is ∙
      pack-short n (k - n) (number_bit outputs j)
      (λ t l. ap (λ (x : ℕ). bit_at x j) (get_or-eq_default outputs 0 {n = t + 1} (omega arith)) ∙ bit_at_zero j))

module _ (m : ℕ) (outputs : List ℕ) (hits sign : ℕ) (rows : List ℕ) (few : length outputs ≤ most_outputs) (g : Given m outputs hits)
    (p : Spread outputs hits sign rows) (j : ℕ) (b : j < lanes) where
  low-cells : (k : ℕ) → k ≤ 15 → get_or (transposed rows) j 0 % 2 ^ k ≡ pack k (cell outputs hits j)
  low-cells k h =
      ap (λ (x : ℕ). x % 2 ^ k) (transposed-row rows j b) ∙
      (pack-mod side k (λ t. bit_at (get_or rows t 0) j) (λ t l. bit_at_lt (get_or rows t 0) j) (omega arith) ∙
      pack-eq k (λ t. bit_at (get_or rows t 0) j) (cell outputs hits j) (λ t l. p.number.cells t j (omega arith) b))

  sign_bit : bit_at (get_or (transposed rows) j 0) 15 ≡ min (bit_at sign j) (bit_at hits j)
  sign_bit =
      ap (λ (x : ℕ). bit_at x 15) (transposed-row rows j b) ∙
      (bit_at_pack side (λ t. bit_at (get_or rows t 0) j) 15 (λ t l. bit_at_lt (get_or rows t 0) j) (omega arith) ∙ p.signs j b)

  lane_row : LaneRow (bit_at sign j) (sample_of m outputs j) (get_or (transposed rows) j 0)
  lane_row =
      ⊎_elim
      (λ (e : (bit_at hits j ≡ 1) × (sample_of m outputs j ≡ sample (spelled outputs j))).
      record {
        number = λ k a b. rw e.1 (low-cells k b ∙ cells-hit outputs hits j k e.0 (omega arith));
        sign = rw (sign_bit, e.1, e.0) (omega (arith, bit_at_lt sign j));
      })
      (λ (e : (bit_at hits j ≡ 0) × (sample_of m outputs j ≡ missed)).
      record {
        number = λ k a b. rw e.1 (low-cells k b ∙ cells_miss outputs hits j k e.0);
        sign = rw (sign_bit, e.1, e.0) (omega arith);
      })
      (g.lane j b)

pub lanes_read : (m : ℕ) (outputs : List ℕ) (hits sign : ℕ) (rows now : List ℕ) → length outputs ≤ most_outputs → Given m outputs hits →
    Spread outputs hits sign rows → now ≡ transposed rows → LaneRows m outputs sign now
lanes_read m outputs hits sign rows now few g p e = rw e (record { lane = λ j b. lane_row m outputs hits sign rows few g p j b })

-- ---- a row read, without its sign and with it
pub row_code : (bit : ℕ) (g : Answer) (row : ℕ) → LaneRow bit g row → row % 2 ^ 8 ≡ code g
row_code bit (sample x) row h = h.number 8 (omega arith) (omega arith)
row_code bit missed row h = h.number 8 (omega arith) (omega arith)

pub row_signed : (bit : ℕ) (g : Answer) (row : ℕ) → LaneRow bit g row → negated_if (bit_at row 15) (row % 2 ^ 15) ≡ signed_code bit g
row_signed bit (sample x) row h = rw (h.number 15 (omega arith) (omega arith), h.sign)
row_signed bit missed row h = rw (h.number 15 (omega arith) (omega arith), h.sign)

-- ---- negation in 16 bits
minus_is : (x : ℕ) → x < 2 ^ 15 → pos 0 -ℤ to_z w16 x ≡ neg_ℤ (pos x)
minus_is x h = rw (to_z_pos w16 {n = x} h) (+ℤ_idl (neg_ℤ (pos x)))

pub minus_fits : (x : ℕ) → x < 2 ^ 15 → SFits w16 (pos 0 -ℤ to_z w16 x)
minus_fits x h = rw (minus_is x h) (at x h)
  where
    at : (x : ℕ) → x < 2 ^ 15 → SFits w16 (neg_ℤ (pos x))
    at zero h = record { sfits = lit< tt }
    at (suc x) h = record { sfits = omega arith }

-- x, and y negated, added up
module _ (x y : ℕ) (a : x < 2 ^ 15) (b : y < 2 ^ 15) where
  less-is : to_z w16 x +ℤ to_z w16 (of_z w16 (pos 0 -ℤ to_z w16 y)) ≡ pos x -ℤ pos y
  less-is = rw (to_z_pos w16 {n = x} a, kept (pos 0 -ℤ to_z w16 y) (neg_ℤ (pos y)) (minus_fits y b) (minus_is y b))

  pub less-fits : SFits w16 (to_z w16 x +ℤ to_z w16 (of_z w16 (pos 0 -ℤ to_z w16 y)))
  less-fits = rw less-is (at y b)
    where
      either : (y : ℕ) (less : Bool) → y < 2 ^ 15 → SFits w16 (cond less (negsuc (suc y - suc x)) (pos (x - suc y)))
      either y true h = record { sfits = omega arith }
      either y false h = record { sfits = omega arith }

      at : (y : ℕ) → y < 2 ^ 15 → SFits w16 (pos x -ℤ pos y)
      at zero h = record { sfits = omega arith }
      at (suc y) h = either y (ltb x (suc y)) (omega arith)

-- A number in two parts, of which one is 0.
pub part_lt : (x b : ℕ) → x < 2 ^ 15 → b < 2 → x * b < 2 ^ 15
part_lt x b h l = omega (arith, mul-le-mul_left {m = b} {n = 1} x (omega arith))

pub negated_is : (bit x : ℕ) → bit < 2 → x < 2 ^ 15 →
    to_z w16 (of_z w16 (to_z w16 (x * (1 - bit)) +ℤ to_z w16 (of_z w16 (pos 0 -ℤ to_z w16 (x * bit))))) ≡ negated_if bit x
negated_is bit x b h =
    let l = part_lt x (1 - bit) h (omega arith) in
    let m = part_lt x bit h b in
    kept _ _ (less-fits (x * (1 - bit)) (x * bit) l m) (less-is (x * (1 - bit)) (x * bit) l m ∙ at bit b)
  where
    at : (bit : ℕ) → bit < 2 → pos (x * (1 - bit)) -ℤ pos (x * bit) ≡ negated_if bit x
    at zero b = rw (mul-one x, mul-zero x) (+ℤ_idr (pos x))
    at (suc zero) b = rw (mul-one x, mul-zero x) (+ℤ_idl (neg_ℤ (pos x)))
    at (suc (suc bit)) b = absurd (omega arith)
