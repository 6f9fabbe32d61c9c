-- Writing and reading are inverse: an instruction and a header are read back as they are written, and are written back as they are read.
-- Assumes nothing.
use Prim.Native.Nat.{ℕ, zero, suc, ◌+◌, ◌*◌, ◌/◌, ◌%◌, ◌≤◌, ◌<◌}
use Rattle.std.specs.Prelude.{◌≡◌, refl, Bool, true, false, not, cond, eqb, ltb, length, take}
use Rattle.std.proofs.Common.{sym, ◌∙◌, add-one, le-ltb, eq-eqb, ltb-false, eqb-true, length-append, get_or-drop, drop-cons, take_at}
use Rattle.std.proofs.Math.Path.{ap}
use mathlib.Core.List.{List, [], ◌∷◌, ◌++◌}
use native.Mathlib.Omega.{arith}
use Rattle.std.proofs.lemmas.Bool.{not-false}
use Rattle.std.proofs.Math.ListN.{get_or, drop, length-drop}
use Rattle.laws.specs.Lay.{lay, lay_at, drop-laid, laid-back}
use Rattle.laws.specs.Outcome.{Outcome, gives, laid, passed, bound, gives_inj, no_result}
use Rattle.fields.specs.Fields.{field_of, field-small}
use Rattle.programs.specs.Limits.{most_instructions, most_inputs, within, within_under}
use Rattle.programs.specs.Records.{record_bytes}
use Rattle.programs.specs.Reading.{length_fields, length_instruction, encode_gives}
use Rattle.programs.specs.Reading.{header-long, header-numbers, write_header-gives}
use Rattle.programs.specs.Instructions.{of_kind, sized_of, kind_of, length_of, operands_of, instruction_bytes, encode_of, decode_of}
use Rattle.programs.specs.Instructions.{decode_at}
use Rattle.programs.specs.Header.{header_length, header_kind, header_bytes, numbers_of}
use Rattle.programs.specs.Header.{header_under, header_of, limits_under, write_header_under, write_header_of}
use Rattle.programs.specs.declared.description.Program.{Program}
use Rattle.programs.specs.declared.description.Instruction.{Instruction}
use Rattle.programs.specs.declared.description.Instruction.TheVariants.{Ones, Zero, Input, Not, And, Or, Output}

pub field-drop : (n : ℕ) (bytes : List ℕ) (k : ℕ) → field_of (drop n bytes) k ≡ field_of bytes (n + k)
unfolding field_of
field-drop n bytes k =
    let e : n + (k + 1) ≡ n + k + 1 = omega arith in
    rw (get_or-drop n bytes k 0, get_or-drop n bytes (k + 1) 0, e)

-- of every kind in the table: its number, and its length by its operands
pub kind-says : (i : Instruction) → (6 ≤ length_of i) × (0 < kind_of i) × (kind_of i ≤ 7) × (2 < kind_of i → 8 ≤ length_of i)
kind-says (Ones to) = (omega arith, omega arith, omega arith, λ l. omega arith)
kind-says (Zero to) = (omega arith, omega arith, omega arith, λ l. omega arith)
kind-says (Input to n) = (omega arith, omega arith, omega arith, λ l. omega arith)
kind-says (Not to a) = (omega arith, omega arith, omega arith, λ l. omega arith)
kind-says (And to a b) = (omega arith, omega arith, omega arith, λ l. omega arith)
kind-says (Or to a b) = (omega arith, omega arith, omega arith, λ l. omega arith)
kind-says (Output o a) = (omega arith, omega arith, omega arith, λ l. omega arith)

-- what is read says of the bytes
pub record Reads (bytes : List ℕ) (i : Instruction) : Type 0 where
  pub room : length_of i ≤ length bytes
  pub long : field_of bytes 0 ≡ length_of i
  pub named : of_kind (field_of bytes 2) (field_of bytes 4) (field_of bytes 6) (field_of bytes 8) ≡ gives i

pub decode_reads : (bytes : List ℕ) (i : Instruction) → decode_of bytes ≡ gives i → Reads bytes i
unfolding decode_of sized_of
decode_reads bytes i e =
    let c1 = passed 1 (ltb (length bytes) 4) _ i e in
    let c2 = passed 1 (ltb (length bytes) (field_of bytes 0)) _ i c1.1 in
    let c3 = bound (of_kind (field_of bytes 2) (field_of bytes 4) (field_of bytes 6) (field_of bytes 8)) (sized_of (field_of bytes 0)) i
    c2.1 in
    let c4 = passed 7 (not (eqb (field_of bytes 0) (length_of c3.0))) (gives c3.0) i c3.2 in
    let l : field_of bytes 0 ≡ length_of c3.0 = eqb-true (field_of bytes 0) (length_of c3.0) (not-false _ c4.0) in
    let q : c3.0 ≡ i = gives_inj c4.1 in
    record {
      room = omega (arith, ltb-false (length bytes) (field_of bytes 0) c2.0, l, ap length_of q);
      long = l ∙ ap length_of q;
      named = c3.1 ∙ ap gives q;
    }

pub reads_decode : (bytes : List ℕ) (i : Instruction) → Reads bytes i → decode_of bytes ≡ gives i
unfolding decode_of sized_of
reads_decode bytes i r =
    rw (
      le-ltb (length bytes) 4 (omega (arith, r.room, (kind-says i).0)),
      r.long,
      le-ltb (length bytes) (length_of i) r.room,
      r.named,
      eq-eqb (length_of i) (length_of i) refl,
    )

-- ---- the table read both ways
-- n fields from byte k on
abbrev fields_of : ℕ → ℕ → List ℕ → List ℕ
fields_of zero k bytes = []
fields_of (suc n) k bytes = field_of bytes k ∷ fields_of n (k + 2) bytes

-- what kind and operands in some bytes say of the instruction that they name
pub record Named (bytes : List ℕ) (i : Instruction) : Type 0 where
  pub kind : field_of bytes 2 ≡ kind_of i
  pub operands : operands_of i ≡ fields_of (length (operands_of i)) 4 bytes

either_test : {P : Type 0} (t : Bool) (i j : Instruction) (o : Outcome Instruction) → (t ≡ true → j ≡ i → P) → (o ≡ gives i → P) →
    cond t (gives j) o ≡ gives i → P
either_test true i j o yes-it no-not e = yes-it refl (gives_inj e)
either_test false i j o yes-it no-not e = no-not e

pub named : (bytes : List ℕ) (i : Instruction) → Reads bytes i → Named bytes i
named bytes i r =
    tried 1 (Ones a) refl refl (tried 2 (Zero a) refl refl (tried 3 (Input a b) refl refl (tried 4 (Not a b) refl refl
    (tried 5 (And a b d) refl refl (tried 6 (Or a b d) refl refl (tried 7 (Output a b) refl refl (no_result 7 i))))))) r.named
  where
    a : ℕ
    a = field_of bytes 4

    b : ℕ
    b = field_of bytes 6

    d : ℕ
    d = field_of bytes 8

    tried : (n : ℕ) (j : Instruction) {o : Outcome Instruction} → n ≡ kind_of j →
        operands_of j ≡ fields_of (length (operands_of j)) 4 bytes →
        (o ≡ gives i → Named bytes i) → cond (eqb (field_of bytes 2) n) (gives j) o ≡ gives i → Named bytes i
    tried n j {o} e q later =
        either_test (eqb (field_of bytes 2) n) i j o
        (λ t w. rw (← w) (record { kind = eqb-true (field_of bytes 2) n t ∙ e; operands = q })) later

-- ---- a header
-- what is read says of the bytes
pub record HeaderReadsUnder (wide many : ℕ) (file : List ℕ) (p : Program) : Type 0 where
  pub room : header_length ≤ length file
  pub long : field_of file 0 ≡ header_length
  pub kind : field_of file 2 ≡ header_kind
  pub inside : within_under wide many p ≡ true
  pub numbers : numbers_of file ≡ p

-- in whatever order they are tried
limits-read : (wide long : ℕ) (file : List ℕ) (p q : Program) → limits_under wide long file p ≡ gives q →
    (eqb (field_of file 0) header_length ≡ true) × (within_under wide long p ≡ true) × (p ≡ q)
unfolding limits_under
limits-read wide long file p q = go (eqb (field_of file 0) header_length) (within_under wide long p) refl refl
  where
    go : (l w : Bool) → eqb (field_of file 0) header_length ≡ l → within_under wide long p ≡ w → limits_under wide long file p ≡ gives q →
        (eqb (field_of file 0) header_length ≡ true) × (within_under wide long p ≡ true) × (p ≡ q)
    go true true a b e = (a, b, gives_inj (simp (a, b) at e))
    go true false a b e = no_result _ q (simp (a, b) at e)
    go false true a b e = no_result _ q (simp (a, b) at e)
    go false false a b e = no_result _ q (simp (a, b) at e)

pub header-reads_under : (wide long : ℕ) (file : List ℕ) (p : Program) → header_under wide long file ≡ gives p →
    HeaderReadsUnder wide long file p
unfolding header_under limits_under
header-reads_under wide long file p e =
    let c1 = passed _ (ltb (length file) 4) _ p e in
    let c2 = passed 2 (not (eqb (field_of file 2) header_kind)) _ p c1.1 in
    let c3 = passed 1 (ltb (length file) header_length) _ p c2.1 in
    let c4 = limits-read wide long file (numbers_of file) p c3.1 in
    record {
      room = ltb-false (length file) header_length c3.0;
      long = eqb-true (field_of file 0) header_length c4.0;
      kind = eqb-true (field_of file 2) header_kind (not-false _ c2.0);
      inside = ap (within_under wide long) (sym c4.2) ∙ c4.1;
      numbers = c4.2;
    }

-- at the limits
pub header-reads : (file : List ℕ) (p : Program) → header_of file ≡ gives p → HeaderReadsUnder most_inputs most_instructions file p
header-reads = header-reads_under most_inputs most_instructions

-- ---- what is written is read back
field_back : (x : ℕ) → x % 256 + 256 * (x / 256) ≡ x
field_back x = omega arith

read_back : (i : Instruction) (rest : List ℕ) → let ahead = instruction_bytes i ++ rest in field_of ahead 0 ≡ length_of i →
    of_kind (field_of ahead 2) (field_of ahead 4) (field_of ahead 6) (field_of ahead 8) ≡ gives i → decode_of ahead ≡ gives i
read_back i rest l k =
    let room : length_of i ≤ length (instruction_bytes i ++ rest) =
    omega (arith, length-append (instruction_bytes i) rest, length_instruction i) in
    reads_decode (instruction_bytes i ++ rest) i (record { room = room; long = l; named = k })

pub decode_written : (i : Instruction) (rest : List ℕ) → decode_of (instruction_bytes i ++ rest) ≡ gives i
unfolding instruction_bytes record_bytes field_of
decode_written (Ones to) rest = read_back (Ones to) rest refl (rw (field_back to))
decode_written (Zero to) rest = read_back (Zero to) rest refl (rw (field_back to))
decode_written (Input to n) rest = read_back (Input to n) rest refl (rw (field_back to, field_back n))
decode_written (Not to a) rest = read_back (Not to a) rest refl (rw (field_back to, field_back a))
decode_written (And to a b) rest = read_back (And to a b) rest refl (rw (field_back to, field_back a, field_back b))
decode_written (Or to a b) rest = read_back (Or to a b) rest refl (rw (field_back to, field_back a, field_back b))
decode_written (Output o a) rest = read_back (Output o a) rest refl (rw (field_back o, field_back a))

count-back : (x : ℕ) → x % 65536 % 256 + 256 * (x % 65536 / 256) + 65536 * (x / 65536 % 256 + 256 * (x / 65536 / 256)) ≡ x
count-back x = omega arith

numbers-written : (p : Program) (rest : List ℕ) → p ≡ numbers_of (header_bytes p ++ rest)
unfolding header_bytes record_bytes numbers_of field_of
numbers-written p rest =
    rw (field_back p.registers, field_back p.inputs, field_back p.outputs, field_back p.rows, count-back p.count)

pub header-written : (p : Program) (rest : List ℕ) → within p ≡ true → header_of (header_bytes p ++ rest) ≡ gives p
unfolding header_bytes record_bytes field_of limits_under
header-written p rest w = header-numbers (header_bytes p ++ rest) (omega arith) refl p (numbers-written p rest) ∙ rw w

-- ---- bytes are written back as they are read
two_ahead : (bytes : List ℕ) (k : ℕ) → k + 2 ≤ length bytes → drop k bytes ≡ get_or bytes k 0 ∷ get_or bytes (k + 1) 0 ∷ drop (k + 2) bytes
two_ahead bytes k h =
    let next : k + 2 ≡ suc (k + 1) = omega arith in
    drop-cons bytes k 0 (omega arith) ∙
    ap (λ (l : List ℕ). get_or bytes k 0 ∷ l) (rw (← add-one k, next) (drop-cons bytes (k + 1) 0 (omega arith)))

module _ (bytes : List ℕ) (byte : (i : ℕ) → get_or bytes i 0 < 256) where
  record_back : (n k : ℕ) → k + 2 * n ≤ length bytes → drop k bytes ≡ record_bytes (fields_of n k bytes) ++ drop (k + 2 * n) bytes
  unfolding record_bytes field_of
  record_back zero k h =
      let at : k ≡ k + 2 * 0 = omega arith in
      ap (λ (j : ℕ). drop j bytes) at
  record_back (suc n) k h =
      let at : k + 2 * suc n ≡ (k + 2) + 2 * n = omega arith in
      let x : ℕ = get_or bytes k 0 in
      let y : ℕ = get_or bytes (k + 1) 0 in
      let low : (x + 256 * y) % 256 ≡ x = omega (arith, byte k) in
      let high : (x + 256 * y) / 256 ≡ y = omega (arith, byte k) in
      rw (low, high, at)
      (two_ahead bytes k (omega arith) ∙ ap (λ (l : List ℕ). x ∷ y ∷ l) (record_back n (k + 2) (omega arith)))

pub instruction_back : (bytes : List ℕ) (i : Instruction) → ((k : ℕ) → get_or bytes k 0 < 256) → decode_of bytes ≡ gives i →
    bytes ≡ instruction_bytes i ++ drop (length_of i) bytes
unfolding instruction_bytes
instruction_back bytes i byte e =
    let r = decode_reads bytes i e in
    let n : ℕ = suc (suc (length (operands_of i))) in
    let m = named bytes i r in
    let fields : fields_of n 0 bytes ≡ length_of i ∷ kind_of i ∷ operands_of i = rw (r.long, m.kind, ← m.operands) in
    let at : 0 + 2 * n ≡ length_of i = omega (arith, length_fields i) in
    rw (fields, at) at (record_back bytes byte n 0 (omega (arith, r.room)))

pub header-back : (file : List ℕ) (p : Program) → ((k : ℕ) → get_or file k 0 < 256) → header_of file ≡ gives p →
    file ≡ header_bytes p ++ drop header_length file
unfolding header_bytes numbers_of
header-back file p byte e =
    let h = header-reads file p e in
    let small = field-small file 12 (byte 12) (byte 13) in
    let low : (field_of file 12 + 65536 * field_of file 14) % 65536 ≡ field_of file 12 = omega (arith, small) in
    let high : (field_of file 12 + 65536 * field_of file 14) / 65536 ≡ field_of file 14 = omega (arith, small) in
    let fields : fields_of 8 0 file ≡
    header_length ∷ header_kind ∷ p.registers ∷ p.inputs ∷ p.outputs ∷ p.rows ∷ p.count % 65536 ∷ p.count / 65536 ∷ [] =
    rw (h.long, h.kind, ← h.numbers, low, high) in
    rw fields at (record_back file byte 8 0 h.room)

-- ---- what the contracts of encode, decode, write_header and read_header cite
-- the front of a file
front-is : (n : ℕ) (xs rest file : List ℕ) → length xs ≡ n → file ≡ xs ++ rest → xs ≡ take n file
front-is n xs rest file l e = sym (ap (take n) e ∙ take_at xs rest n l)

encode_means : (i : Instruction) (at room : ℕ) (bytes : List ℕ) → encode_of i at room ≡ gives bytes →
    (at + length_of i ≤ room) × (instruction_bytes i ≡ bytes)
unfolding encode_of
encode_means i at room bytes e =
    let c = passed 13 (ltb room (at + length_of i)) (gives (instruction_bytes i)) bytes e in
    (ltb-false room (at + length_of i) c.0, gives_inj c.1)

-- an instruction that is written is read back
pub encode_then_decode : (i : Instruction) (at : ℕ) (buf bytes : List ℕ) → encode_of i at (length buf) ≡ gives bytes →
    decode_at (lay_at at bytes buf) at ≡ gives i
unfolding decode_at
encode_then_decode i at buf bytes e =
    let m = encode_means i at (length buf) bytes e in
    rw (← m.1, drop-laid at (instruction_bytes i) buf (omega arith)) (decode_written i (drop (at + length (instruction_bytes i)) buf))

-- an instruction that is read is written back as it stands, which changes nothing
module _ (file : List ℕ) (at : ℕ) (i : Instruction) (byte : (k : ℕ) → get_or file k 0 < 256) (e : decode_at file at ≡ gives i) where
  stands : drop at file ≡ instruction_bytes i ++ drop (length_of i) (drop at file)
  unfolding decode_at
  stands = instruction_back (drop at file) i (λ k. rw (get_or-drop at file k 0) (byte (at + k))) e

  fits : at + length_of i ≤ length file
  unfolding decode_at
  fits = omega (arith, (decode_reads (drop at file) i e).room, length-drop at file, (kind-says i).0)

  pub decode_then_encode : encode_of i at (length file) ≡ gives (take (length_of i) (drop at file))
  decode_then_encode =
      encode_gives i at (length file) fits ∙
      ap gives (front-is (length_of i) (instruction_bytes i) (drop (length_of i) (drop at file)) (drop at file) (length_instruction i)
      stands)

  pub decode_then_encode_same : lay_at at (laid (λ bytes. bytes) (encode_of i at (length file))) file ≡ file
  decode_then_encode_same =
      rw (encode_gives i at (length file) fits) (laid-back at (instruction_bytes i) (drop (length_of i) (drop at file)) file stands)

write_header_means : (p : Program) (room : ℕ) (bytes : List ℕ) → write_header_of p room ≡ gives bytes →
    (within p ≡ true) × (header_bytes p ≡ bytes)
unfolding write_header_under
write_header_means p room bytes e =
    let c1 = passed 3 (not (within p)) _ bytes e in
    let c2 = passed 13 (ltb room header_length) (gives (header_bytes p)) bytes c1.1 in
    (not-false _ c1.0, gives_inj c2.1)

-- a header that is written is read back
pub write_header-then_read : (p : Program) (buf bytes : List ℕ) → write_header_of p (length buf) ≡ gives bytes →
    header_of (lay bytes buf) ≡ gives p
unfolding lay
write_header-then_read p buf bytes e =
    let m = write_header_means p (length buf) bytes e in
    rw (← m.1) (header-written p (drop (length (header_bytes p)) buf) m.0)

-- a header that is read is written back as it stands, which changes nothing
module _ (file : List ℕ) (p : Program) (byte : (k : ℕ) → get_or file k 0 < 256) (e : header_of file ≡ gives p) where
  header-given : write_header_of p (length file) ≡ gives (header_bytes p)
  header-given =
      let h = header-reads file p e in
      write_header-gives p (length file) h.inside h.room

  pub read_header-then_write : write_header_of p (length file) ≡ gives (take header_length file)
  read_header-then_write =
      header-given ∙
      ap gives (front-is header_length (header_bytes p) (drop header_length file) file (header-long p) (header-back file p byte e))

  pub read_header-then_write_same : lay (laid (λ bytes. bytes) (write_header_of p (length file))) file ≡ file
  unfolding lay
  read_header-then_write_same = rw (header-given, header-long p) (sym (header-back file p byte e))
