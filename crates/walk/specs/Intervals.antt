-- Which strings hit which row. Where the walk has not hit before column c, the number of the first c bits is T of the first c columns, plus
-- d. So a row that has a 1 in column c is hit there on 2^(n-1-c) numbers, one after another; those of rows further up come before, those of
-- later columns behind; and every number from T on misses. Assumes nothing.
use Prim.Native.Nat.{ℕ, zero, suc, ◌+◌, ◌-◌, ◌*◌, ◌^◌, ◌≤◌, ◌<◌}
use Rattle.std.specs.Prelude.{◌≡◌, true, ◌↔◌, take, drop}
use Rattle.std.proofs.Math.Path.{refl, ap, subst}
use Rattle.std.proofs.Common.{sym, ◌∙◌, add-zero, zero-add, add-one, eq-eqb, eqb-true, drop_of_length-le}
use mathlib.Core.List.{List, [], ◌∷◌}
use Rattle.std.proofs.Math.Nat.{mul-le-mul_right, pow-succ'}
use native.Mathlib.Omega.{arith}
use Rattle.std.proofs.Math.ListN.{length, get_or}
use Rattle.std.proofs.Math.Pow.{pow-add}
use Rattle.std.proofs.Math.Seq.{drop-cons}
use Rattle.laws.specs.Tests.{never}
use Rattle.laws.specs.Sums.{sum_to, sum_plus, sum_same, sum-times, sum-front-le}
use Rattle.laws.specs.Digits.{number, number_more}
use Rattle.laws.specs.Lists.{upto}
use Rattle.laws.specs.Outcome.{gives, gives_inj}
use Rattle.files.specs.Matrix.{Matrix, Accepted, bit, p, total, ones_in}
use Rattle.files.specs.Live.{total_from}
use Rattle.files.specs.Files.{matrix_of}
use Rattle.files.specs.RoundTrip.{accepted-bits, read_accepted}
use Rattle.fields.specs.Fields.{bit_of}
use Rattle.fields.specs.Strings.{strings_of}
use Rattle.walk.specs.Walk.{Drawn, hit, miss, Place, found, left, scan, then, walk, drawn, used, hits}
use Rattle.walk.specs.Walk.{sample, missed, answer_of, Spending, spending_of, walk_of, is_miss}
use Rattle.walk.specs.Strings.{Bits}
use Rattle.walk.specs.Numbers.{string_number, read_number, Among, string-none, string_more, front_iff, take-bits, take-number}
use Rattle.walk.specs.Ranks.{Ranked, scan_ranked, scan_passes, scan_finds}
use Rattle.walk.specs.Packed.{read_bits}
use Rattle.walk.specs.Used.{told-hit}
use Rattle.walk.specs.Theorems.{hit-inside, hit-set, walk_is}

-- T of the first c columns of m rows
abbrev pub total_to : (ℕ → ℕ → ℕ) → ℕ → ℕ → ℕ
total_to bit m c = total_from bit m 0 c

-- the ones of column c in the rows above row v
abbrev pub above : (ℕ → ℕ → ℕ) → ℕ → ℕ → ℕ → ℕ
above bit m v c = ones_in bit m c - ones_in bit (suc v) c

-- the first c + 1 bits, as a number, of the strings that hit row v in column c
unfoldable pub leading : (ℕ → ℕ → ℕ) → ℕ → ℕ → ℕ → ℕ
leading bit m v c = 2 * total_to bit m c + above bit m v c

-- the first of their numbers, in n bits
unfoldable pub first_number : (ℕ → ℕ → ℕ) → ℕ → ℕ → ℕ → ℕ → ℕ
first_number bit m n v c = leading bit m v c * 2 ^ (n - 1 - c)

-- the number of a string is one of those on which row v is hit, in one of its set columns
abbrev pub Hitting : Matrix → ℕ → List ℕ → Type 0
Hitting M v s =
    (c : ℕ) × (c < M.columns) × (bit M v c ≡ 1) ×
    Among (first_number (bit M) M.rows M.columns v c) (2 ^ (M.columns - 1 - c)) (string_number M.columns s)

-- ---- a hit of row v, as a test says it
pub hits-is : (v c : ℕ) (r : Drawn) → r ≡ hit v c → hits v r ≡ true
unfolding hits
hits-is v c r e = rw e (eq-eqb v v refl)

-- ---- T of the first columns
pub total-none : (bit : ℕ → ℕ → ℕ) (m : ℕ) → total_to bit m 0 ≡ 0
unfolding total_from number
total-none bit m = sum_same m 0 (λ v. 0) (λ v. refl) ∙ omega arith

pub total_more : (bit : ℕ → ℕ → ℕ) (m c : ℕ) → total_to bit m (suc c) ≡ 2 * total_to bit m c + ones_in bit m c
unfolding total_from ones_in
total_more bit m c =
    omega (
      arith,
      sum_plus m (λ v. number (bit v) 0 (suc c)) (λ v. number (bit v) 0 c * 2) (λ v. bit v c)
          (λ v. omega (arith, rw (add-one c, zero-add c) at (number_more (bit v) 0 c))),
      sum-times m (λ v. number (bit v) 0 c) 2,
    )

ones_grow : (bit : ℕ → ℕ → ℕ) (a b c : ℕ) → a ≤ b → ones_in bit a c ≤ ones_in bit b c
unfolding ones_in
ones_grow bit a b c l = sum-front-le a b (λ v. bit v c) l

ones-set : (bit : ℕ → ℕ → ℕ) (v c : ℕ) → bit v c ≡ 1 → 0 < ones_in bit (suc v) c
unfolding ones_in sum_to
ones-set bit v c e = omega arith

-- the ones up to a set row are more than those up to a row below it
ones_more : (bit : ℕ → ℕ → ℕ) (u v c : ℕ) → u < v → bit v c ≡ 1 → ones_in bit (suc u) c < ones_in bit (suc v) c
unfolding ones_in sum_to
ones_more bit u v c h e = omega (arith, sum-front-le (suc u) v (λ v. bit v c) h)

-- ---- leading bits are T of one column more, less the ones from their row down
leading-is : (bit : ℕ → ℕ → ℕ) (m v c : ℕ) → v < m → leading bit m v c + ones_in bit (suc v) c ≡ total_to bit m (suc c)
unfolding leading
leading-is bit m v c h = omega (arith, total_more bit m c, ones_grow bit (suc v) m c h)

-- ---- where the intervals lie
total_grows : (bit : ℕ → ℕ → ℕ) (m c k : ℕ) → total_to bit m c * 2 ^ k ≤ total_to bit m (c + k)
total_grows bit m c zero = rw (add-zero c) (omega arith)
total_grows bit m c (suc k) =
    let e : c + suc k ≡ suc (c + k) = omega arith in
    rw (e, pow-succ' 2 k) (omega (arith, total_grows bit m c k, total_more bit m (c + k)))

module _ (bit : ℕ → ℕ → ℕ) (m n v c : ℕ) (h : v < m) (l : c < n) (o : bit v c ≡ 1) where
  -- that of row v in column c ends within T of c + 1 columns
  ends : first_number bit m n v c + 2 ^ (n - 1 - c) ≤ total_to bit m (suc c) * 2 ^ (n - 1 - c)
  unfolding first_number
  ends =
      let up : suc (leading bit m v c) ≤ total_to bit m (suc c) = omega (arith, leading-is bit m v c h, ones-set bit v c o) in
      omega (arith, mul-le-mul_right {m = suc (leading bit m v c)} {n = total_to bit m (suc c)} (2 ^ (n - 1 - c)) up)

  -- so within T
  pub ends-below : first_number bit m n v c + 2 ^ (n - 1 - c) ≤ total_to bit m n
  ends-below =
      let e : suc c + (n - 1 - c) ≡ n = omega arith in
      omega (arith, ends, rw e at (total_grows bit m (suc c) (n - 1 - c)))

  -- before that of any row below v in this column
  pub ends_above : (u : ℕ) → u < v → first_number bit m n v c + 2 ^ (n - 1 - c) ≤ first_number bit m n u c
  unfolding first_number
  ends_above u k =
      let up : suc (leading bit m v c) ≤ leading bit m u c =
      omega (arith, leading-is bit m v c h, leading-is bit m u c (omega arith), ones_more bit u v c k o) in
      omega (arith, mul-le-mul_right {m = suc (leading bit m v c)} {n = leading bit m u c} (2 ^ (n - 1 - c)) up)

  later : (u i : ℕ) → c < i → i < n → total_to bit m (suc c) * 2 ^ (n - 1 - c) ≤ first_number bit m n u i
  unfolding first_number leading
  later u i a k =
      let e : suc c + (i - suc c) ≡ i = omega arith in
      let w : n - 1 - c ≡ i - suc c + suc (n - 1 - i) = omega arith in
      let t : total_to bit m (suc c) * 2 ^ (i - suc c) ≤ total_to bit m i = rw e at (total_grows bit m (suc c) (i - suc c)) in
      rw (w, pow-add 2 (i - suc c) (suc (n - 1 - i)), pow-succ' 2 (n - 1 - i))
      (omega (arith, mul-le-mul_right {m = total_to bit m (suc c) * 2 ^ (i - suc c)} {n = total_to bit m i} (2 ^ (n - 1 - i)) t))

  -- and before that of any row in a later column
  pub ends-before : (u i : ℕ) → c < i → i < n → first_number bit m n v c + 2 ^ (n - 1 - c) ≤ first_number bit m n u i
  ends-before u i a k = omega (arith, ends, later u i a k)

-- ---- the walk, with the string's first bits as a number
module _ (bit : ℕ → ℕ → ℕ) (m : ℕ) (s : List ℕ) where
  -- what is drawn from n bits, by their number
  abbrev Lands : ℕ → Drawn → Type 0
  Lands n (hit v c) = string_number (suc c) s + ones_in bit (suc v) c ≡ total_to bit m (suc c)
  Lands n miss = total_to bit m n ≤ string_number n s

  -- bs is what is left of the string from column c on
  abbrev Rest : ℕ → List ℕ → Type 0
  Rest c bs = (i : ℕ) → i < length bs → get_or bs i 0 ≡ get_or s (c + i) 0

  rest-first : (c b : ℕ) (bs : List ℕ) → Rest c (b ∷ bs) → b ≡ get_or s c 0
  rest-first c b bs r = r 0 (omega arith) ∙ ap (λ (k : ℕ). get_or s k 0) (add-zero c)

  rest-next : (c b : ℕ) (bs : List ℕ) → Rest c (b ∷ bs) → Rest (suc c) bs
  rest-next c b bs r i l = r (suc i) (omega arith) ∙ ap (λ (k : ℕ). get_or s k 0) (omega arith)

  then_lands : (c n d b : ℕ) (o : Place) (go : ℕ → Drawn) → b ≡ get_or s c 0 → string_number c s ≡ total_to bit m c + d →
      Ranked (λ v. bit v c) (ones_in bit m c) (2 * d + b) o →
      ((e : ℕ) → string_number (suc c) s ≡ total_to bit m (suc c) + e → Lands n (go e)) → Lands n (then c o go)
  unfolding then ones_in
  then_lands c n d b (found v) go q h r k = omega (arith, string_more c s, total_more bit m c)
  then_lands c n d b (left e) go q h r k = k e (omega (arith, string_more c s, total_more bit m c))

  -- from column c on, where the number so far is T of the columns passed, plus d
  lands : (bs : List ℕ) (c d : ℕ) → ((v i : ℕ) → v < m → c ≤ i → i < c + length bs → bit v i ≤ 1) → Rest c bs →
      string_number c s ≡ total_to bit m c + d → Lands (c + length bs) (walk bit m c d bs)
  unfolding walk ones_in
  lands [] c d ok r h = rw (add-zero c) (omega arith)
  lands (b ∷ bs) c d ok r h =
      let e : suc c + length bs ≡ c + suc (length bs) = omega arith in
      then_lands c (c + suc (length bs)) d b (scan (λ v. bit v c) m (2 * d + b)) (λ x. walk bit m (suc c) x bs) (rest-first c b bs r) h
      (scan_ranked (λ v. bit v c) m (2 * d + b) (λ v l. ok v c l (omega arith) (omega arith)))
      (λ x q. subst (λ (k : ℕ). Lands k (walk bit m (suc c) x bs)) e
      (lands bs (suc c) x (λ v i l a k. ok v i l (omega arith) (omega arith)) (rest-next c b bs r) q))

-- ---- every m and n, whatever the rows sum to
module _ (bit : ℕ → ℕ → ℕ) (m n : ℕ) (ok : (v c : ℕ) → v < m → c < n → bit v c ≤ 1) (s : List ℕ) (b : Bits n s) where
  whole : Rest bit m s 0 s
  whole i l = ap (λ (k : ℕ). get_or s k 0) (sym (zero-add i))

  begun : string_number 0 s ≡ total_to bit m 0 + 0
  begun = omega (arith, string-none s, total-none bit m)

  fit : (v i : ℕ) → v < m → 0 ≤ i → i < 0 + length s → bit v i ≤ 1
  fit v i l z h = ok v i l (omega (arith, b.long))

  walk_lands : Lands bit m s n (walk bit m 0 0 s)
  walk_lands =
      let e : 0 + length s ≡ n = omega (arith, b.long) in
      rw e at (lands bit m s s 0 0 fit whole begun)

  -- where the first c bits are T of the first c columns or more, the walk has not hit there, and goes on with what they are above T as d
  pub goes_on : (c : ℕ) → c ≤ n → total_to bit m c ≤ string_number c s →
      walk bit m 0 0 s ≡ walk bit m c (string_number c s - total_to bit m c) (drop c s)
  unfolding walk then ones_in
  goes_on zero h l =
      let z : string_number 0 s - total_to bit m 0 ≡ 0 = omega (arith, string-none s) in
      rw z
  goes_on (suc c) h l =
      let before : total_to bit m c ≤ string_number c s =
      omega (arith, string_more c s, total_more bit m c, b.each c (omega arith)) in
      let d : ℕ = string_number c s - total_to bit m c in
      let e : ℕ = string_number (suc c) s - total_to bit m (suc c) in
      goes_on c (omega arith) before ∙
      rw (
        drop-cons s c 0 (omega (arith, b.long)),
        scan_passes (λ v. bit v c) m (2 * d + get_or s c 0) e (λ v k. ok v c k (omega arith))
            (omega (arith, before, string_more c s, total_more bit m c)),
      )

  meets : (v c : ℕ) → v < m → c < n → bit v c ≡ 1 → string_number (suc c) s ≡ leading bit m v c → walk bit m 0 0 s ≡ hit v c
  unfolding walk then ones_in
  meets v c h l o e =
      let is = leading-is bit m v c h in
      let before : total_to bit m c ≤ string_number c s =
      omega (arith, is, string_more c s, total_more bit m c, ones_grow bit (suc v) m c h, b.each c l) in
      let d : ℕ = string_number c s - total_to bit m c in
      goes_on c (omega arith) before ∙
      rw (
        drop-cons s c 0 (omega (arith, b.long)),
        scan_finds (λ v. bit v c) m v (2 * d + get_or s c 0) (λ v k. ok v c k l) h o
            (omega (arith, before, is, string_more c s, total_more bit m c)),
      )

  -- a set row is hit in a column exactly by the strings with its leading bits
  pub leads_iff : (v c : ℕ) → v < m → c < n → bit v c ≡ 1 → (walk bit m 0 0 s ≡ hit v c) ↔ (string_number (suc c) s ≡ leading bit m v c)
  leads_iff v c h l o = (
    (λ e. omega (arith, leading-is bit m v c h, subst (Lands bit m s n) e walk_lands)),
    meets v c h l o,
  )

  -- that is, on one interval of numbers
  pub interval_iff : (v c : ℕ) → v < m → c < n → bit v c ≡ 1 →
      (walk bit m 0 0 s ≡ hit v c) ↔ Among (first_number bit m n v c) (2 ^ (n - 1 - c)) (string_number n s)
  unfolding first_number
  interval_iff v c h l o =
      let e : suc c + (n - 1 - c) ≡ n = omega arith in
      let f = rw e at (front_iff (suc c) (n - 1 - c) s (subst (λ (k : ℕ). Bits k s) (sym e) b) (leading bit m v c)) in
      let g = leads_iff v c h l o in
      ((λ q. f.0 (g.0 q)), (λ q. g.1 (f.1 q)))

  -- and the strings from T on miss, and no others
  pub beyond_iff : (walk bit m 0 0 s ≡ miss) ↔ (total_to bit m n ≤ string_number n s)
  unfolding walk
  beyond_iff = (
    (λ e. subst (Lands bit m s n) e walk_lands),
    (λ q. goes_on n (omega arith) q ∙ rw (drop_of_length-le s {i = n} (omega (arith, b.long)))),
  )

-- so where the walk on the first c bits has not hit, the walk on all of them goes on in column c with a d that, with T of the first c
-- columns, is the number of those bits
pub passed : (bit : ℕ → ℕ → ℕ) (m n : ℕ) → ((v c : ℕ) → v < m → c < n → bit v c ≤ 1) → (s : List ℕ) → Bits n s → (c : ℕ) → c ≤ n →
    walk bit m 0 0 (take c s) ≡ miss →
    (d : ℕ) × (walk bit m 0 0 s ≡ walk bit m c d (drop c s)) × (string_number c s ≡ total_to bit m c + d)
passed bit m n ok s b c h e =
    let front : total_to bit m c ≤ string_number c (take c s) =
    (beyond_iff bit m c (λ v i k l. ok v i k (omega arith)) (take c s) (take-bits c n s h b)).0 e in
    let l : total_to bit m c ≤ string_number c s = omega (arith, take-number c n s h b) in
    (string_number c s - total_to bit m c, goes_on bit m n ok s b c h l, omega arith)

-- ---- matrices
module _ (M : Matrix) (a : Accepted M) (s : List ℕ) (b : Bits M.columns s) where
  -- row v is hit in column c, where it has a 1, on the 2^(n-1-c) numbers from the first one on
  pub hit_iff : (v c : ℕ) → v < M.rows → c < M.columns → bit M v c ≡ 1 →
      (drawn M s ≡ hit v c) ↔
      Among (first_number (bit M) M.rows M.columns v c) (2 ^ (M.columns - 1 - c)) (string_number M.columns s)
  unfolding drawn
  hit_iff = interval_iff (bit M) M.rows M.columns (accepted-bits M a) s b

  -- the walk misses on every number from T on, and on no other
  pub miss_iff : (drawn M s ≡ miss) ↔ (total M ≤ string_number M.columns s)
  unfolding drawn total p total_from
  miss_iff = beyond_iff (bit M) M.rows M.columns (accepted-bits M a) s b

  hitting : (v : ℕ) → v < M.rows → (r : Drawn) → drawn M s ≡ r → hits v r ≡ true → Hitting M v s
  unfolding hits
  hitting v h (hit u c) e t =
      let e' : drawn M s ≡ hit v c = e ∙ ap (λ (x : ℕ). hit x c) (eqb-true u v t) in
      let l : c < M.columns = omega (arith, (hit-inside M s v c e').1, b.long) in
      let o : bit M v c ≡ 1 = omega (arith, hit-set M s v c e', accepted-bits M a v c h l) in
      (c, l, o, (hit_iff v c h l o).0 e')
  hitting v h miss e t = never t

  -- so of every row: the strings that hit it are those of its set columns
  pub row_iff : (v : ℕ) → v < M.rows → (hits v (drawn M s) ≡ true) ↔ Hitting M v s
  row_iff v h = (
    (λ e. hitting v h (drawn M s) refl e),
    (λ q. hits-is v q.0 (drawn M s) ((hit_iff v q.0 h q.1 q.2).1 q.3)),
  )

-- ---- matrix files and packed strings
module _ (file : List ℕ) (M : Matrix) (e : matrix_of file ≡ gives M) (string : List ℕ)
    (sound : strings_of 1 M.columns string ≡ gives tt) where
  -- what is told of the walk is what is drawn
  told_is : (w : Spending) → walk_of file string ≡ gives w → spending_of M.columns (drawn M (upto M.columns (bit_of string 0))) ≡ w
  told_is w g = gives_inj (sym (walk_is file M e string sound) ∙ g)

  pub file-hit_iff : (v c : ℕ) → v < M.rows → c < M.columns → bit M v c ≡ 1 →
      (walk_of file string ≡ gives (record { answer = sample v; used = c + 1 })) ↔
      Among (first_number (bit M) M.rows M.columns v c) (2 ^ (M.columns - 1 - c)) (read_number M.columns string)
  unfolding used
  file-hit_iff v c h l o =
      let n : ℕ = M.columns in
      let s : List ℕ = upto n (bit_of string 0) in
      let i = hit_iff M (read_accepted file M e) s (read_bits n string) v c h l o in
      let z : c + 1 - 1 ≡ c = omega arith in (
        (λ g. i.0 (rw z at (told-hit n (drawn M s) (record { answer = sample v; used = c + 1 }) v (told_is _ g) refl))),
        (λ a. walk_is file M e string sound ∙ ap (λ (d : Drawn). gives (spending_of n d)) (i.1 a)),
      )

  pub file_miss_iff :
      (walk_of file string ≡ gives (record { answer = missed; used = M.columns })) ↔ (total M ≤ read_number M.columns string)
  unfolding used
  file_miss_iff =
      let n : ℕ = M.columns in
      let s : List ℕ = upto n (bit_of string 0) in
      let i = miss_iff M (read_accepted file M e) s (read_bits n string) in (
        (λ g. i.0 (missed-is (drawn M s) (ap (λ (w : Spending). w.answer) (told_is _ g)))),
        (λ a. walk_is file M e string sound ∙ ap (λ (d : Drawn). gives (spending_of n d)) (i.1 a)),
      )
    where
      missed-is : (d : Drawn) → answer_of d ≡ missed → d ≡ miss
      missed-is (hit v c) q = never (ap is_miss q)
      missed-is miss q = refl
