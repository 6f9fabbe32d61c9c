-- The ways through the checks of a matrix that is written, and what is laid down. Assumes nothing.
use Prim.Native.Nat.{ℕ, ◌+◌, ◌-◌, ◌*◌, ◌/◌, ◌%◌, ◌^◌, ◌≤◌, ◌<◌}
use Rattle.std.specs.Prelude.{◌≡◌, refl, true, false, not, ltb, get_or, take, drop}
use Rattle.std.proofs.Math.Path.{sym}
use Rattle.std.proofs.Common.{◌∙◌, arith, lt-ltb, le-ltb, ltb-false, length-append}
use mathlib.Core.List.{List, ◌++◌}
use Rattle.std.proofs.Math.ListN.{length}
use Rattle.std.proofs.Math.Seq.{get_or-take}
use Rattle.laws.specs.Sums.{any_false}
use Rattle.laws.specs.Digits.{digit}
use Rattle.laws.specs.Lists.{blocks, blocks-eq, length-blocks, length_part, part_at}
use Rattle.laws.specs.Lay.{Laid, laid_none, laid-after, lay, lay_at, lay_at-after, lay-is, length-lay}
use Rattle.laws.specs.Outcome.{Outcome, refused, gives, refuse, ◌>>◌, mapped, laid, passed, gives_inj, mapped-gives, mapped-refused}
use Rattle.laws.specs.Outcome.{mapped-then, ends-given}
use Rattle.fields.specs.Fields.{field_bytes, stored, stored_at, packed_bit, packed, packed-eq, width, length-packed}
use Rattle.files.specs.Matrix.{Matrix, sizes_outside, bit, total}
use Rattle.files.specs.Live.{total_from, rows_fit}
use Rattle.files.specs.Files.{file_length, header_bytes, row_bytes, matrix_file, taken, above_one}
use Rattle.files.specs.Files.{write_header_under, write_header_of, write_under, write_of}
use Rattle.files.specs.Sizes.{Sized, sizes-within, sizes-refuse, cell}
use Rattle.files.specs.Checks.{total-is, not_above}

-- ---- the header that is written
module _ (m n room : ℕ) where
  -- past the sizes
  head_is : write_header_of m n room ≡
      (refuse 3 (sizes_outside m n) >> (refuse 13 (ltb room (file_length m n)) >> gives (header_bytes m n)))
  unfolding write_header_under
  head_is = sizes-refuse m n _

  pub head_sizes : sizes_outside m n ≡ true → write_header_of m n room ≡ refused 3
  head_sizes a = rw (head_is, a)

  module _ (a : sizes_outside m n ≡ false) where
    pub head_full : room < file_length m n → write_header_of m n room ≡ refused 13
    head_full f = rw (head_is, a, lt-ltb room (file_length m n) f)

    pub head_gives : file_length m n ≤ room → write_header_of m n room ≡ gives (header_bytes m n)
    head_gives f = rw (head_is, a, le-ltb room (file_length m n) f)

-- what an answer of a length says
pub record Headed (m n room : ℕ) : Type 0 where
  pub sized : Sized m n
  pub is : write_header_of m n room ≡ gives (header_bytes m n)
  pub room_is : file_length m n ≤ room

pub headed : (m n room len : ℕ) → gives len ≡ mapped (λ h. file_length m n) (write_header_of m n room) → Headed m n room
headed m n room len e =
    let g = mapped-gives (λ h. file_length m n) (write_header_of m n room) len e in
    let c1 = passed 3 (sizes_outside m n) _ g.0 (sym (head_is m n room) ∙ g.1) in
    let c2 = passed 13 (ltb room (file_length m n)) _ g.0 c1.1 in
    record { sized = sizes-within m n c1.0; is = g.1 ∙ sym c2.1; room_is = ltb-false room (file_length m n) c2.0 }

-- a file whose last check is its header's
pub with_header : (m n room : ℕ) (file : List ℕ) → sizes_outside m n ≡ false →
    (refuse 13 (ltb room (file_length m n)) >> gives file) ≡ mapped (λ h. file) (write_header_of m n room)
with_header m n room file a = rw (head_is m n room, a) (mapped-then (refuse 13 (ltb room (file_length m n))) _ _ _ refl)

-- ---- entries, as the live test reads them: one bit to a byte
pub entry-bit : (entries : List ℕ) (at c : ℕ) → get_or entries (at + c) 0 ≤ 1 → packed_bit 1 entries at c ≡ get_or entries (at + c) 0
unfolding packed_bit digit
entry-bit entries at c h =
    let place : at + c / 1 ≡ at + c = omega arith in
    let shift : 1 - 1 - c % 1 ≡ 0 = omega arith in
    rw (place, shift) (omega arith)

pub no_entry-above : (k : ℕ) (entries : List ℕ) → above_one k entries ≡ false → (i : ℕ) → i < k → get_or entries i 0 ≤ 1
no_entry-above k entries e i h = ltb-false 1 (get_or entries i 0) (any_false k i (λ i. ltb 1 (get_or entries i 0)) e h)

module _ (m n : ℕ) (entries : List ℕ) where
  pub taken_bit : (v c : ℕ) → v < m → c < n → bit (taken m n entries) v c ≡ get_or entries (v * n + c) 0
  unfolding bit
  taken_bit v c h l = get_or-take (m * n) entries (v * n + c) 0 (cell h l)

  -- the live test of the entries is refusal 6's
  pub entries-sum : above_one (m * n) entries ≡ false → ltb (2 ^ n) (total (taken m n entries)) ≡ not (rows_fit entries 1 n m n)
  entries-sum none =
      let ok = no_entry-above (m * n) entries none in
      rw (total-is (taken m n entries) (λ v. packed_bit 1 entries (v * n))
      (λ v c h l. taken_bit v c h l ∙ sym (entry-bit entries (v * n) c (ok (v * n + c) (cell h l)))))
      (not_above (total_from (λ v. packed_bit 1 entries (v * n)) m 0 n) (2 ^ n))

-- a row of the entries, packed
pub row_packed : (k size n : ℕ) (entries bytes : List ℕ) → size ≡ n → k + n ≤ length entries →
    bytes ≡ packed (length (take size (drop k entries))) (λ i. get_or (take size (drop k entries)) i 0) →
    bytes ≡ packed n (λ i. get_or entries (k + i) 0)
row_packed k size n entries bytes e h q =
    q ∙
    rw (length_part k size n entries e h)
    (packed-eq n (λ i. get_or (take size (drop k entries)) i 0) (λ i. get_or entries (k + i) 0) (λ i l. part_at k size n entries 0 i e l))

-- ---- the checks
module _ (m n : ℕ) (entries : List ℕ) (room : ℕ) where
  -- past the sizes, with the header's check for the last
  write_is : sizes_outside m n ≡ false → write_of m n entries room ≡
      (refuse 13 (ltb (length entries) (m * n)) >> (refuse 5 (above_one (m * n) entries) >>
      (refuse 6 (ltb (2 ^ n) (total (taken m n entries))) >> mapped (λ h. matrix_file (taken m n entries)) (write_header_of m n room))))
  unfolding write_under
  write_is a = sizes-refuse m n _ ∙ rw (a, with_header m n room (matrix_file (taken m n entries)) a)

  pub write_sizes : sizes_outside m n ≡ true → write_of m n entries room ≡ refused 3
  unfolding write_under
  write_sizes a = sizes-refuse m n _ ∙ rw a

  module _ (a : sizes_outside m n ≡ false) where
    pub write_short : length entries < m * n → write_of m n entries room ≡ refused 13
    write_short c = rw (write_is a, lt-ltb (length entries) (m * n) c)

    module _ (c : m * n ≤ length entries) where
      pub write_bit : above_one (m * n) entries ≡ true → write_of m n entries room ≡ refused 5
      write_bit d = rw (write_is a, le-ltb (length entries) (m * n) c, d)

      module _ (d : above_one (m * n) entries ≡ false) where
        pub write_rest : ltb (2 ^ n) (total (taken m n entries)) ≡ false →
            write_of m n entries room ≡ mapped (λ h. matrix_file (taken m n entries)) (write_header_of m n room)
        write_rest e = rw (write_is a, le-ltb (length entries) (m * n) c, d, e)

        pub write_sum : not (rows_fit entries 1 n m n) ≡ true → write_of m n entries room ≡ refused 6
        write_sum e = rw (write_is a, le-ltb (length entries) (m * n) c, d, entries-sum m n entries d ∙ e)

-- ---- what is laid down
pub header-laid : (file x1 x2 x3 x4 : List ℕ) (len m n : ℕ) → x1 ≡ stored file 0 len → x2 ≡ stored x1 2 32 → x3 ≡ stored x2 4 m →
    x4 ≡ stored x3 6 n → len ≡ file_length m n → 8 ≤ length file → x4 ≡ lay (header_bytes m n) file
unfolding header_bytes
header-laid file x1 x2 x3 x4 len m n e1 e2 e3 e4 e h =
    let l1 = laid-field 0 (file_length m n) (rw e at e1) (laid_none 0 file) refl (omega arith) in
    let l2 = laid-field 2 32 e2 l1 refl (omega arith) in
    let l3 = laid-field 4 m e3 l2 refl (omega arith) in
    (laid-field 6 n e4 l3 refl (omega arith)).is ∙
    lay-is (field_bytes (file_length m n) ++ field_bytes 32 ++ field_bytes m ++ field_bytes n) file
  where
    -- a field behind those before it
    laid-field : (at x : ℕ) {now now' xs : List ℕ} → now' ≡ stored now at x → Laid 0 xs file now → at ≡ 0 + length xs →
        at + 2 ≤ length file → Laid 0 (xs ++ field_bytes x) file now'
    laid-field at x {now} {now'} {xs} q l e h =
        laid-after 0 at xs (field_bytes x) file now now' e h (q ∙ stored_at now at x (omega (arith, l.long))) l

pub length-header : (m n : ℕ) → length (header_bytes m n) ≡ 8
unfolding header_bytes
length-header m n = refl

pub length-file : (M : Matrix) → length (matrix_file M) ≡ file_length M.rows M.columns
unfolding matrix_file
length-file M =
    length-append (header_bytes M.rows M.columns) (row_bytes M) ∙
    omega (
      arith,
      length-header M.rows M.columns,
      length-blocks (width M.columns) (λ v. packed M.columns (bit M v)) (λ v. length-packed M.columns (bit M v)) M.rows,
    )

-- ---- the last step of what writes a matrix: its header's refusal, or the rows behind the header
-- what a header's writer leaves, with its answer
abbrev pub Head : ℕ → ℕ → List ℕ → Outcome ℕ → List ℕ → Type 0
Head m n file answer now =
    let o = write_header_of m n (length file) in (answer ≡ mapped (λ h. file_length m n) o) × (now ≡ lay (laid (λ h. h) o) file)

-- and what a file's does
abbrev pub Wrote : Outcome (List ℕ) → List ℕ → Outcome ℕ → List ℕ → Type 0
Wrote o file answer now = (answer ≡ mapped length o) × (now ≡ lay (laid (λ bytes. bytes) o) file)

-- after a header there is room for the rows
pub head_room : (m n len : ℕ) (file now : List ℕ) → Head m n file (gives len) now → Sized m n × (file_length m n ≤ length now)
head_room m n len file now w =
    let h = headed m n (length file) len w.0 in
    let long = length-header m n in
    let fits : length (header_bytes m n) ≤ length file = omega (arith, h.room_is) in
    (h.sized, rw (w.1, h.is, length-lay (header_bytes m n) file fits) (omega (arith, h.room_is)))

module _ (M : Matrix) (o : Outcome (List ℕ)) (file : List ℕ)
    (is : o ≡ mapped (λ h. matrix_file M) (write_header_of M.rows M.columns (length file))) where
  pub ends_unheaded : (k : ℕ) (now : List ℕ) → Head M.rows M.columns file (refused k) now → Wrote o file (refused k) now
  ends_unheaded k now h =
      let w = mapped-refused (λ h. file_length M.rows M.columns) (write_header_of M.rows M.columns (length file)) k h.0 in
      rw (is, w) (refl, rw w at h.1)

  pub ends_headed : (f : ℕ → ℕ → ℕ) (len : ℕ) (now now' : List ℕ) → ((v c : ℕ) → v < M.rows → c < M.columns → f v c ≡ bit M v c) →
      Head M.rows M.columns file (gives len) now → now' ≡ lay_at 8 (blocks M.rows (λ v. packed M.columns (f v))) now →
      Wrote o file (gives len) now'
  unfolding matrix_file
  ends_headed f len now now' bits w r =
      let h = headed M.rows M.columns (length file) len w.0 in
      let head : List ℕ = header_bytes M.rows M.columns in
      let long : length head ≡ 8 = length-header M.rows M.columns in
      let place : 0 + length head ≡ 8 = omega (arith, long) in
      let rows : blocks M.rows (λ v. packed M.columns (f v)) ≡ row_bytes M =
      blocks-eq M.rows (λ v. packed M.columns (f v)) (λ v. packed M.columns (bit M v))
      (λ v l. packed-eq M.columns (f v) (bit M v) (λ c k. bits v c l k)) in
      ends-given length (λ bytes. bytes) (matrix_file M) len o file now' (is ∙ rw h.is)
      (gives_inj (rw h.is at w.0) ∙ sym (length-file M))
      (rw (r, rw h.is at w.1, rows, ← lay-is head file)
      (rw place at (lay_at-after 0 head (row_bytes M) file (omega (arith, long, h.room_is))) ∙ lay-is (head ++ row_bytes M) file))

-- the same of entries that have passed their checks
pub record Entered (m n : ℕ) (entries : List ℕ) : Type 0 where
  pub sized : sizes_outside m n ≡ false
  pub there : m * n ≤ length entries
  pub bits : above_one (m * n) entries ≡ false
  pub sum : not (rows_fit entries 1 n m n) ≡ false

module _ {m n : ℕ} {entries : List ℕ} (ok : Entered m n entries) (file : List ℕ) where
  passes : write_of m n entries (length file) ≡ mapped (λ h. matrix_file (taken m n entries)) (write_header_of m n (length file))
  passes = write_rest m n entries (length file) ok.sized ok.there ok.bits (entries-sum m n entries ok.bits ∙ ok.sum)

  pub write_unheaded : (k : ℕ) (now : List ℕ) → Head m n file (refused k) now →
      Wrote (write_of m n entries (length file)) file (refused k) now
  write_unheaded = ends_unheaded (taken m n entries) (write_of m n entries (length file)) file passes

  pub write_headed : (len : ℕ) (now now' : List ℕ) → Head m n file (gives len) now →
      now' ≡ lay_at 8 (blocks m (λ v. packed n (λ i. get_or entries (v * n + i) 0))) now →
      Wrote (write_of m n entries (length file)) file (gives len) now'
  write_headed len now now' =
      ends_headed (taken m n entries) (write_of m n entries (length file)) file passes (λ v i. get_or entries (v * n + i) 0) len now now'
      (λ v i h l. sym (taken_bit m n entries v i h l))
