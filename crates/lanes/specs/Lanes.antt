-- What holds lane by lane of what the operations leave in the buffers lent. Assumes nothing.
use Rattle.std.specs.Prelude.{ℕ, zero, suc, ◌+◌, ◌-◌, ◌*◌, ◌/◌, ◌%◌, ◌^◌, ◌≤◌, ◌<◌, ◌≡◌, refl, Bool, true, false, not, cond, List, ◌↔◌, ◌⊎◌}
use Rattle.std.specs.Prelude.{eqb, ltb, ℤ, pos, neg_ℤ, nat_abs, length, get_or, drop, Ok}
use Rattle.std.proofs.Common.{sym, ap, ◌∙◌, inl, inr, ⊎_elim, zero-mul, arith, lt-ltb, le-ltb, ltb-true, ltb-false, length-take}
use Rattle.std.proofs.Common.{length-drop, get_or-take, get_or-drop}
use Rattle.std.proofs.lemmas.Bool.{not-false}
use Rattle.std.proofs.Math.ListN.{get_or-eq_default}
use Rattle.laws.specs.Tests.{never, lt-or_ge}
use Rattle.laws.specs.Sums.{any, any_false, any-all}
use Rattle.laws.specs.Digits.{number, digit, number_shift}
use Rattle.laws.specs.Words.{bit_at, bit_at_zero, bit_at_pack, pack-bits, pack-eq, pack-lt}
use Rattle.laws.specs.Lists.{row-end, upto, length-upto, get_d_upto}
use Rattle.laws.specs.Lay.{lay, at_front}
use Rattle.laws.specs.Outcome.{gives, refuse, ◌>>◌, gives_inj, laid, mapped, mapped-gives, passed, refuse-gives, then-gives}
use Rattle.fields.specs.Fields.{bit_of, packed_bit, bit_le, spare, width}
use Rattle.fields.specs.Limits.{outside, most_columns}
use Rattle.fields.specs.Refusal.{answered}
use Rattle.fields.specs.Strings.{strings_under, strings_of}
use Rattle.programs.specs.Limits.{most_rows, suited}
use Rattle.walk.specs.Walk.{Answer, sample, missed, is_miss}
use Rattle.lanes.specs.Slicing.{lanes, slice_under, slice_of, string_at, word_of}
use Rattle.lanes.specs.Samples.{lane_hits, spelled, lane_says, below_rows, sample_of}
use Rattle.lanes.specs.Samples.{code, each_lane, samples_of, signed_code, signed_samples_of}

-- element i of a list that is laid at the front
laid-at : {A : Type 0} (n : ℕ) (f : ℕ → A) (buf : List A) (i : ℕ) (d : A) → i < n → get_or (lay (upto n f) buf) i d ≡ f i
laid-at n f buf i d h = at_front (upto n f) buf i d (omega (arith, length-upto n f)) ∙ get_d_upto n f i d h

-- ---- slicing
-- bit j of word i is bit i of string j
pub lane_of_word : (strings : List ℕ) (w i j : ℕ) → j < lanes → bit_at (word_of strings w i) j ≡ bit_of strings (j * w) i
unfolding word_of
lane_of_word strings w i j h = bit_at_pack lanes (λ j. bit_of strings (j * w) i) j (λ j l. omega (arith, bit_le 8 strings (j * w) i)) h

pub word_lt : (strings : List ℕ) (w i : ℕ) → word_of strings w i < 2 ^ lanes
unfolding word_of
word_lt strings w i = pack-lt lanes (λ j. bit_of strings (j * w) i) (λ j l. omega (arith, bit_le 8 strings (j * w) i))

-- what slicing that gives words says of the strings, the room and the words
pub record Cut (n : ℕ) (strings : List ℕ) (room : ℕ) (words : List ℕ) : Type 0 where
  pub sound : strings_of lanes n strings ≡ gives tt
  pub fit : n ≤ room
  pub is : words ≡ upto n (word_of strings (width n))

pub cut : (n : ℕ) (strings : List ℕ) (room : ℕ) (words : List ℕ) → slice_of n strings room ≡ gives words → Cut n strings room words
unfolding slice_under
cut n strings room words e =
    let c = then-gives (strings_of lanes n strings) (refuse 13 (ltb room n) >> gives (upto n (word_of strings (width n)))) words e in
    let d = passed 13 (ltb room n) (gives (upto n (word_of strings (width n)))) words c.1 in
    record { sound = c.0; fit = ltb-false room n d.0; is = sym (gives_inj d.1) }

-- The lane law of slicing: where k words are answered, k is n, and of what the buffer then holds bit j of word i is bit i of string j.
module _ (n : ℕ) (strings buf : List ℕ) (k : ℕ) (e : gives k ≡ mapped length (slice_of n strings (length buf))) where
  pub slice_many : k ≡ n
  slice_many =
      let g = mapped-gives length (slice_of n strings (length buf)) k e in
      sym g.2 ∙ (ap length (cut n strings (length buf) g.0 g.1).is ∙ length-upto n (word_of strings (width n)))

  pub slice_lane : (i j : ℕ) → i < n → j < lanes →
      bit_at (get_or (lay (laid (λ xs. xs) (slice_of n strings (length buf))) buf) i 0) j ≡ bit_of strings (j * width n) i
  slice_lane i j h l =
      let g = mapped-gives length (slice_of n strings (length buf)) k e in
      let c = cut n strings (length buf) g.0 g.1 in
      rw (g.1, c.is, laid-at n (word_of strings (width n)) buf i 0 h) (lane_of_word strings (width n) i j l)

-- string j by itself has the bits that lane j carries
pub string-bit : (n : ℕ) (strings : List ℕ) (j i : ℕ) → i < 8 * width n →
    bit_of (string_at n strings j) 0 i ≡ bit_of strings (j * width n) i
unfolding string_at packed_bit
string-bit n strings j i h =
    ap (λ (x : ℕ). digit 8 x (i % 8))
    (get_or-take (width n) (drop (j * width n) strings) (0 + i / 8) 0 (omega arith) ∙
    (get_or-drop (j * width n) strings (0 + i / 8) 0 ∙ ap (λ (q : ℕ). get_or strings q 0) (omega arith)))

string-spare : (n : ℕ) (strings : List ℕ) (j v : ℕ) → v < 1 → spare (string_at n strings j) n (v * width n) ≡ spare strings n (j * width n)
unfolding spare
string-spare n strings j v h =
    let first : v * width n ≡ 0 = ap (λ (x : ℕ). x * width n) (omega arith) ∙ zero-mul (width n) in
    let same : number (bit_of (string_at n strings j) 0) n (8 * width n - n) ≡ number (bit_of strings (j * width n)) n (8 * width n - n) =
    number_shift (bit_of (string_at n strings j) 0) (bit_of strings (j * width n)) n n (8 * width n - n)
    (λ i l. string-bit n strings j (n + i) (omega arith)) in
    rw (first, same)

length-string : (n : ℕ) (strings : List ℕ) (j : ℕ) → j < lanes → lanes * width n ≤ length strings → length (string_at n strings j) ≡ width n
unfolding string_at
length-string n strings j h l =
    simp (length-take, length-drop) (omega (arith, row-end {v = j} {m = lanes} {size = length strings} (width n) (width n) h refl l))

-- each of the strings that slicing takes is one that a walk takes
pub string-sound : (n : ℕ) (strings : List ℕ) (j : ℕ) → j < lanes → strings_of lanes n strings ≡ gives tt →
    strings_of 1 n (string_at n strings j) ≡ gives tt
unfolding strings_under
string-sound n strings j h e =
    let c1 = passed 3 (outside most_columns n) _ tt e in
    let c2 = passed 13 (ltb (length strings) (lanes * width n)) _ tt c1.1 in
    let c3 = refuse-gives 5 (any lanes (λ v. spare strings n (v * width n))) tt c2.1 in
    let long : length (string_at n strings j) ≡ width n =
    length-string n strings j h (ltb-false (length strings) (lanes * width n) c2.0) in
    let clear : any 1 (λ v. spare (string_at n strings j) n (v * width n)) ≡ false =
    any-all 1 (λ v. spare (string_at n strings j) n (v * width n))
    (λ v l. string-spare n strings j v l ∙ any_false lanes j (λ v. spare strings n (v * width n)) c3 h) in
    rw (c1.0, le-ltb (length (string_at n strings j)) (1 * width n) (omega (arith, long)), clear)

-- ---- samples
-- A lane misses where its bit of output 0 is clear. It says v where that is set and its bits of outputs 1 and up are v's, lowest first.
pub lane-clear : (outputs : List ℕ) (j : ℕ) → bit_at (get_or outputs 0 0) j ≡ 0 → lane_says outputs j ≡ missed
unfolding lane_says lane_hits
lane-clear outputs j h = rw h

pub lane_spells : (outputs : List ℕ) (j v : ℕ) → bit_at (get_or outputs 0 0) j ≡ 1 → v < 2 ^ (length outputs - 1) →
    ((t : ℕ) → t < length outputs - 1 → bit_at (get_or outputs (t + 1) 0) j ≡ bit_at v t) → lane_says outputs j ≡ sample v
unfolding lane_says lane_hits spelled
lane_spells outputs j v h l e =
    rw h
    (ap sample (pack-eq (length outputs - 1) (λ t. bit_at (get_or outputs (t + 1) 0) j) (bit_at v) e ∙ pack-bits (length outputs - 1) v l))

-- 02, order 10: what a lane gives is what it says, where that is below rows, and otherwise a miss
pub below_iff : (rows v : ℕ) (g : Answer) → (below_rows rows g ≡ sample v) ↔ ((g ≡ sample v) × (v < rows))
unfolding below_rows
below_iff rows v missed = ((λ e. never (sym (ap is_miss e))), (λ e. never (sym (ap is_miss e.0))))
below_iff rows v (sample x) = (given (ltb x rows) refl, (λ e. let is : x ≡ v = ap code e.0 in rw (lt-ltb x rows (omega arith)) e.0))
  where
    given : (b : Bool) → ltb x rows ≡ b → cond b (sample x) missed ≡ sample v → (sample x ≡ sample v) × (v < rows)
    given true q e =
        let is : x ≡ v = ap code e in
        (e, omega (arith, ltb-true x rows q))
    given false q e = never (sym (ap is_miss e))

pub below-same : (rows : ℕ) (g : Answer) → ((v : ℕ) → g ≡ sample v → v < rows) → below_rows rows g ≡ g
unfolding below_rows
below-same rows (sample x) h = rw (lt-ltb x rows (h x refl))
below-same rows missed h = refl

pub sample_iff : (rows : ℕ) (outputs : List ℕ) (j v : ℕ) →
    (sample_of rows outputs j ≡ sample v) ↔ ((lane_says outputs j ≡ sample v) × (v < rows))
unfolding sample_of
sample_iff rows outputs j v = below_iff rows v (lane_says outputs j)

-- a lane that says a number which is not below rows misses
pub lane_beyond : (rows : ℕ) (outputs : List ℕ) (j v : ℕ) → lane_says outputs j ≡ sample v → rows ≤ v → sample_of rows outputs j ≡ missed
unfolding sample_of below_rows
lane_beyond rows outputs j v e h = rw (e, le-ltb v rows h)

-- a lane that says no more than rows allow gives what it says
pub lane-same : (rows : ℕ) (outputs : List ℕ) (j : ℕ) → ((v : ℕ) → lane_says outputs j ≡ sample v → v < rows) →
    sample_of rows outputs j ≡ lane_says outputs j
unfolding sample_of
lane-same rows outputs j h = below-same rows (lane_says outputs j) h

-- What a lane gives depends on that lane's bits alone, wherever the lane lies and whatever the others hold.
pub same-lane : (rows : ℕ) (a b : List ℕ) (i j : ℕ) → length a ≡ length b →
    ((t : ℕ) → t < length a → bit_at (get_or a t 0) i ≡ bit_at (get_or b t 0) j) → sample_of rows a i ≡ sample_of rows b j
unfolding sample_of lane_says lane_hits spelled
same-lane rows a b i j len e =
    rw (each 0, pack-eq (length a - 1) (λ t. bit_at (get_or a (t + 1) 0) i) (λ t. bit_at (get_or b (t + 1) 0) j) (λ t l. each (t + 1)), len)
  where
    each : (t : ℕ) → bit_at (get_or a t 0) i ≡ bit_at (get_or b t 0) j
    each t =
        ⊎_elim (λ (l : t < length a). e t l)
        (λ (l : length a ≤ t).
        rw (get_or-eq_default a 0 {n = t} l, get_or-eq_default b 0 {n = t} (omega arith)) (bit_at_zero i ∙ sym (bit_at_zero j)))
        (lt-or_ge t (length a))

-- what reading that gives numbers says of the rows, the room and the numbers
pub record Read {A : Type 0} (rows : ℕ) (outputs : List ℕ) (room : ℕ) (f : ℕ → A) (xs : List A) : Type 0 where
  pub suits : suited rows (length outputs) ≡ true
  pub fit : lanes ≤ room
  pub is : xs ≡ upto lanes f

pub read_lanes : {A : Type 0} (rows : ℕ) (outputs : List ℕ) (room : ℕ) (f : ℕ → A) (xs : List A) →
    each_lane rows outputs room f ≡ gives xs → Read rows outputs room f xs
unfolding each_lane
read_lanes rows outputs room f xs e =
    let c1 = passed 3 (not (suited rows (length outputs))) _ xs e in
    let c2 = passed 13 (ltb room lanes) (gives (upto lanes f)) xs c1.1 in
    record { suits = not-false _ c1.0; fit = ltb-false room lanes c2.0; is = sym (gives_inj c2.1) }

-- what reading that gives numbers leaves in the buffer
module _ {A : Type 0} (rows : ℕ) (outputs : List ℕ) (buf : List A) (f : ℕ → A)
    (e : answered (Ok (tt {0})) ≡ mapped (λ xs. tt) (each_lane rows outputs (length buf) f)) where
  lane_read : (j : ℕ) (d : A) → j < lanes → get_or (lay (laid (λ xs. xs) (each_lane rows outputs (length buf) f)) buf) j d ≡ f j
  lane_read j d h =
      let g = mapped-gives (λ xs. tt {0}) (each_lane rows outputs (length buf) f) tt e in
      let r = read_lanes rows outputs (length buf) f g.0 g.1 in
      rw (g.1, r.is) (laid-at lanes f buf j d h)

-- Where lane j of the outputs gives g, sample j is g's code; and with a sign word, its signed code.
pub samples_say : (rows : ℕ) (outputs buf : List ℕ) → answered (Ok (tt {0})) ≡ mapped (λ xs. tt) (samples_of rows outputs (length buf)) →
    (j : ℕ) (g : Answer) → j < lanes → sample_of rows outputs j ≡ g →
    get_or (lay (laid (λ xs. xs) (samples_of rows outputs (length buf))) buf) j 0 ≡ code g
samples_say rows outputs buf e j g h q = lane_read rows outputs buf (λ j. code (sample_of rows outputs j)) e j 0 h ∙ ap code q

pub signed_say : (rows : ℕ) (outputs : List ℕ) (sign : ℕ) (buf : List ℤ) →
    answered (Ok (tt {0})) ≡ mapped (λ xs. tt) (signed_samples_of rows outputs sign (length buf)) →
    (j : ℕ) (g : Answer) → j < lanes → sample_of rows outputs j ≡ g →
    get_or (lay (laid (λ xs. xs) (signed_samples_of rows outputs sign (length buf))) buf) j (pos 0) ≡ signed_code (bit_at sign j) g
signed_say rows outputs sign buf e j g h q =
    lane_read rows outputs buf (λ j. signed_code (bit_at sign j) (sample_of rows outputs j)) e j (pos 0) h ∙
    ap (signed_code (bit_at sign j)) q

-- ---- codes
-- zero stays zero and a miss a miss, whatever the sign
pub zero_stays : (bit : ℕ) → signed_code bit (sample 0) ≡ pos 0
zero_stays bit = either (eqb bit 1)
  where
    either : (b : Bool) → cond b (neg_ℤ (pos 0)) (pos 0) ≡ pos 0
    either true = refl
    either false = refl

pub miss_stays : (bit : ℕ) → signed_code bit missed ≡ pos 32767
miss_stays bit = refl

-- a number below 128, or a miss: what a lane gives, of at most 128 rows
abbrev pub Small : Answer → Type 0
Small (sample x) = x < 128
Small missed = Unit {0}

pub given-small : (rows : ℕ) (outputs : List ℕ) (j : ℕ) → rows ≤ most_rows → Small (sample_of rows outputs j)
given-small rows outputs j h = go (sample_of rows outputs j) refl
  where
    go : (g : Answer) → sample_of rows outputs j ≡ g → Small g
    go (sample x) e = omega (arith, ((sample_iff rows outputs j x).0 e).1)
    go missed e = tt

-- so the codes tell what was given: 255 and 32,767 stand for a miss and for nothing else
pub code-tells : (g h : Answer) → Small g → Small h → code g ≡ code h → g ≡ h
code-tells (sample x) (sample y) a b e = ap sample e
code-tells (sample x) missed a b e = absurd (omega arith)
code-tells missed (sample y) a b e = absurd (omega arith)
code-tells missed missed a b e = refl

-- negated or not, a sample's distance from 0 is its number
pub distance : (bit x : ℕ) → nat_abs (signed_code bit (sample x)) ≡ x
distance bit x = either (eqb bit 1) x
  where
    either : (b : Bool) (x : ℕ) → nat_abs (cond b (neg_ℤ (pos x)) (pos x)) ≡ x
    either true zero = refl
    either true (suc x) = refl
    either false x = refl

pub signed-tells : (bit : ℕ) (g h : Answer) → Small g → Small h → signed_code bit g ≡ signed_code bit h → g ≡ h
signed-tells bit (sample x) (sample y) a b e = ap sample (sym (distance bit x) ∙ (ap nat_abs e ∙ distance bit y))
signed-tells bit (sample x) missed a b e = absurd (omega (arith, distance bit x, ap nat_abs e))
signed-tells bit missed (sample y) a b e = absurd (omega (arith, distance bit y, ap nat_abs e))
signed-tells bit missed missed a b e = refl

-- ---- 02, order 10: with any words, whatever is read is below rows or a miss
module _ (rows : ℕ) (outputs : List ℕ) (j : ℕ) where
  code_below : (g : Answer) → sample_of rows outputs j ≡ g → (code g < rows) ⊎ (code g ≡ 255)
  code_below (sample x) e = inl ((sample_iff rows outputs j x).0 e).1
  code_below missed e = inr refl

  signed-code-below : (bit : ℕ) (g : Answer) → sample_of rows outputs j ≡ g →
      (nat_abs (signed_code bit g) < rows) ⊎ (signed_code bit g ≡ pos 32767)
  signed-code-below bit (sample x) e = inl (rw (distance bit x) ((sample_iff rows outputs j x).0 e).1)
  signed-code-below bit missed e = inr refl

module _ (rows : ℕ) (outputs : List ℕ) (room : ℕ) (j : ℕ) (h : j < lanes) where
  pub samples_below : (xs : List ℕ) → samples_of rows outputs room ≡ gives xs → (get_or xs j 0 < rows) ⊎ (get_or xs j 0 ≡ 255)
  samples_below xs e =
      rw ((read_lanes rows outputs room _ xs e).is, get_d_upto lanes (λ j. code (sample_of rows outputs j)) j 0 h)
      (code_below rows outputs j (sample_of rows outputs j) refl)

  pub signed_below : (sign : ℕ) (xs : List ℤ) → signed_samples_of rows outputs sign room ≡ gives xs →
      (nat_abs (get_or xs j (pos 0)) < rows) ⊎ (get_or xs j (pos 0) ≡ pos 32767)
  signed_below sign xs e =
      rw (
        (read_lanes rows outputs room _ xs e).is,
        get_d_upto lanes (λ j. signed_code (bit_at sign j) (sample_of rows outputs j)) j (pos 0) h,
      )
      (signed-code-below rows outputs j (bit_at sign j) (sample_of rows outputs j) refl)
