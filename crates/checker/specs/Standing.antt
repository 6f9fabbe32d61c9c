-- Where instructions stand in bytes, for code that goes through them by kind and length. Assumes nothing.
use Rattle.std.specs.Prelude.{ℕ, zero, suc, ◌+◌, ◌≤◌, ◌<◌, ◌≡◌, refl, List, [], ◌∷◌, length, drop}
use Rattle.std.proofs.Math.Path.{sym}
use Rattle.std.proofs.Common.{◌∙◌, ⊎_elim, eq-or-lt_of_le, drop-drop}
use native.Mathlib.Omega.{arith}
use Rattle.std.proofs.Math.ListN.{length-drop}
use Rattle.laws.specs.Lists.{Each}
use Rattle.laws.specs.Outcome.{Outcome, refused, gives, gives_inj}
use Rattle.fields.specs.Fields.{field_of}
use Rattle.programs.specs.Instructions.{uses, kind_of, length_of, of_kind, decode_of, decode_at}
use Rattle.programs.specs.Inverse.{field-drop, kind-says, decode_reads, reads_decode, named}
use Rattle.programs.specs.declared.description.Instruction.{Instruction}
use Rattle.programs.specs.declared.description.Instruction.TheVariants.{Ones, Zero, Input, Not, And, Or, Output}

-- each operand is below its count: of registers, inputs and outputs
abbrev pub InRange : ℕ → ℕ → ℕ → Instruction → Type 0
InRange nr ni nq i =
    Each (λ r. r < nr) (uses i).writes × Each (λ r. r < nr) (uses i).reads × Each (λ n. n < ni) (uses i).takes ×
    Each (λ o. o < nq) (uses i).sets

-- go on with a result, or take what is given for a refusal
abbrev pub OnGives {ℓ} : {A : Type 0} {B : Type ℓ} → Outcome A → B → (A → B) → B
OnGives (refused n) none f = none
OnGives (gives a) none f = f a

-- the instructions in some bytes, n of them
unfoldable pub read_of : ℕ → List ℕ → List Instruction
read_of zero bytes = []
read_of (suc n) bytes = OnGives (decode_of bytes) [] (λ i. i ∷ read_of n (drop (length_of i) bytes))

-- they are there, each with its operands in range
unfoldable pub Formed : ℕ → ℕ → ℕ → ℕ → List ℕ → Type 0
Formed zero nr ni nq bytes = Unit {0}
Formed (suc n) nr ni nq bytes = OnGives (decode_of bytes) ⊥ (λ i. InRange nr ni nq i × Formed n nr ni nq (drop (length_of i) bytes))

-- the same for some inputs and outputs, for code that uses registers alone
pub record Known (n nr : ℕ) (bytes : List ℕ) : Type 0 where
  pub ni : ℕ
  pub nq : ℕ
  pub formed : Formed n nr ni nq bytes

pub record Standing (n : ℕ) (bytes : List ℕ) : Type 0 where
  pub nr : ℕ
  pub ni : ℕ
  pub nq : ℕ
  pub formed : Formed n nr ni nq bytes

-- ---- one instruction
module _ (file : List ℕ) (at : ℕ) where
  -- the operands of an instruction that stands at a byte of a file, and the instruction that its fields name
  abbrev pub first_of : ℕ
  first_of = field_of file (at + 4)

  abbrev pub second_of : ℕ
  second_of = field_of file (at + 6)

  abbrev pub third_of : ℕ
  third_of = field_of file (at + 8)

  abbrev pub named_at : Outcome Instruction
  named_at = of_kind (field_of file (at + 2)) first_of second_of third_of

  -- an AND or an OR is named there: an instruction of three operands
  pub record GateNamed : Type 0 where
    pub i : Instruction
    pub named : named_at ≡ gives i
    pub long : length_of i ≡ 10
    pub used : uses i ≡ record { reads = second_of ∷ third_of ∷ []; writes = first_of ∷ []; takes = []; sets = [] }

  -- it stands at a byte of a file
  pub record Stands (i : Instruction) : Type 0 where
    pub reads : decode_of (drop at file) ≡ gives i
    pub room : at + length_of i ≤ length file
    pub long : field_of file at ≡ length_of i
    pub named : named_at ≡ gives i

  -- some instruction stands there, with its operands in range
  pub record ReadyAt (nr ni nq : ℕ) : Type 0 where
    pub i : Instruction
    pub stands : Stands i
    pub range : InRange nr ni nq i

  -- an AND or an OR stands there, with its operands in range
  pub record Gate (nr : ℕ) : Type 0 where
    pub room : at + 10 ≤ length file
    pub into : first_of < nr
    pub left : second_of < nr
    pub right : third_of < nr

  pub gate_named : (kind : ℕ) → 5 ≤ kind → kind ≤ 6 → field_of file (at + 2) ≡ kind → GateNamed
  gate_named kind low high k =
      ⊎_elim
      (λ (e : 5 ≡ kind).
      record { i = And first_of second_of third_of; named = rw (k ∙ sym e); long = refl; used = refl })
      (λ (e : 5 < kind).
      let six : kind ≡ 6 = omega arith in
      record { i = Or first_of second_of third_of; named = rw (k ∙ six); long = refl; used = refl })
      (eq-or-lt_of_le low)

  pub reads-stands : (i : Instruction) → decode_of (drop at file) ≡ gives i → Stands i
  reads-stands i e =
      let r = decode_reads (drop at file) i e in
      let z : at + 0 ≡ at = omega arith in
      record {
        reads = e;
        room = omega (arith, r.room, length-drop at file, (kind-says i).0);
        long = rw (field-drop at file 0, z) at r.long;
        named = rw (field-drop at file 2, field-drop at file 4, field-drop at file 6, field-drop at file 8) at r.named;
      }

  pub decodes : (i : Instruction) → at + length_of i ≤ length file → field_of file at ≡ length_of i →
      named_at ≡ gives i → gives i ≡ decode_at file at
  unfolding decode_at
  decodes i room long e =
      let z : at + 0 ≡ at = omega arith in
      sym (reads_decode (drop at file) i (record {
        room = omega (arith, length-drop at file);
        long = rw (field-drop at file 0, z) long;
        named = rw (field-drop at file 2, field-drop at file 4, field-drop at file 6, field-drop at file 8) e;
      }))

  -- the kind tells the instruction
  module _ (nr ni nq : ℕ) (r : ReadyAt nr ni nq) where
    pub ready-room : at + 6 ≤ length file
    ready-room = omega (arith, r.stands.room, (kind-says r.i).0)

    -- the instruction that the kind's clause says is the one that stands there
    by_kind : {i : Instruction} → named_at ≡ gives i → Stands i × InRange nr ni nq i
    by_kind {i} e =
        let q : r.i ≡ i = gives_inj (sym r.stands.named ∙ e) in
        (rw q at r.stands, rw q at r.range)

    module _ (k : ℕ) (is-k : k ≡ field_of file (at + 2)) where
      is-named : {i : Instruction} {n : ℕ} → k ≡ n → of_kind n first_of second_of third_of ≡ gives i →
          Stands i × InRange nr ni nq i
      is-named e q = by_kind (rw (sym is-k ∙ e) q)

      kind_is : k ≡ kind_of r.i
      kind_is =
          let bytes = drop at file in
          is-k ∙ rw (field-drop at file 2) at (named bytes r.i (decode_reads bytes r.i r.stands.reads)).kind

      pub is-ones : k ≡ 1 → Stands (Ones first_of) × (first_of < nr)
      is-ones e = let s = is-named e refl in (s.0, s.1.0.0)

      pub is_zero : k ≡ 2 → Stands (Zero first_of) × (first_of < nr)
      is_zero e = let s = is-named e refl in (s.0, s.1.0.0)

      pub is-input : k ≡ 3 → Stands (Input first_of second_of) × ((first_of < nr) × (second_of < ni))
      is-input e = let s = is-named e refl in (s.0, (s.1.0.0, s.1.2.0))

      pub is-not : k ≡ 4 → Stands (Not first_of second_of) × ((first_of < nr) × (second_of < nr))
      is-not e = let s = is-named e refl in (s.0, (s.1.0.0, s.1.1.0))

      pub is-and : k ≡ 5 → Stands (And first_of second_of third_of) × Gate nr
      is-and e =
          let s = is-named e refl in
          (s.0, record { room = s.0.room; into = s.1.0.0; left = s.1.1.0; right = s.1.1.1.0 })

      pub is-or : k ≡ 6 → Stands (Or first_of second_of third_of) × Gate nr
      is-or e =
          let s = is-named e refl in
          (s.0, record { room = s.0.room; into = s.1.0.0; left = s.1.1.0; right = s.1.1.1.0 })

      pub is_output : (k ≡ 1 → ⊥) → (k ≡ 2 → ⊥) → (k ≡ 3 → ⊥) → (k ≡ 4 → ⊥) → (k ≡ 5 → ⊥) → (k ≡ 6 → ⊥) →
          Stands (Output first_of second_of) × ((first_of < nq) × (second_of < nr))
      is_output n1 n2 n3 n4 n5 n6 =
          let e : k ≡ 7 = omega (arith, kind_is, kind-says r.i) in
          let s = is-named e refl in
          (s.0, (s.1.3.0, s.1.1.0))

      -- all but ONES and ZERO have a second operand
      pub second-room : (k ≡ 1 → ⊥) → (k ≡ 2 → ⊥) → at + 8 ≤ length file
      second-room n1 n2 = omega (arith, r.stands.room, (kind-says r.i).3 (omega (arith, kind_is, kind-says r.i)))

-- ---- instructions one after another
pub read_first : (n : ℕ) (bytes : List ℕ) (i : Instruction) → decode_of bytes ≡ gives i →
    read_of (suc n) bytes ≡ i ∷ read_of n (drop (length_of i) bytes)
unfolding read_of
read_first n bytes i e = rw e

pub formed-next : (n nr ni nq : ℕ) (file : List ℕ) (at : ℕ) (i : Instruction) → decode_of (drop at file) ≡ gives i →
    Formed (suc n) nr ni nq (drop at file) → Formed n nr ni nq (drop (at + length_of i) file)
unfolding Formed
formed-next n nr ni nq file at i e f = rw (drop-drop (length_of i) at file) at (rw e at f).1

-- something is left, and what stands at the front of it
pub some-ready : (n nr ni nq : ℕ) (file : List ℕ) (at : ℕ) → 0 < n → Formed n nr ni nq (drop at file) → ReadyAt file at nr ni nq
unfolding Formed
some-ready zero nr ni nq file at l f = absurd (omega arith)
some-ready (suc n) nr ni nq file at l f = by (decode_of (drop at file)) refl f
  where
    by : (o : Outcome Instruction) → decode_of (drop at file) ≡ o →
        OnGives o ⊥ (λ i. InRange nr ni nq i × Formed n nr ni nq (drop (length_of i) (drop at file))) → ReadyAt file at nr ni nq
    by (refused k) e z = absurd z
    by (gives i) e z = record { i = i; stands = reads-stands file at i e; range = z.0 }

-- fewer of them are there too
on_gives-map : (o : Outcome Instruction) (P Q : Instruction → Type 0) → ((i : Instruction) → P i → Q i) → OnGives o ⊥ P → OnGives o ⊥ Q
on_gives-map (refused k) P Q f h = h
on_gives-map (gives i) P Q f h = f i h

pub formed-less : (m n nr ni nq : ℕ) (bytes : List ℕ) → m ≤ n → Formed n nr ni nq bytes → Formed m nr ni nq bytes
unfolding Formed
formed-less zero n nr ni nq bytes l h = tt
formed-less (suc m) zero nr ni nq bytes l h = absurd (omega arith)
formed-less (suc m) (suc n) nr ni nq bytes l h =
    on_gives-map (decode_of bytes) _ _ (λ i g. (g.0, formed-less m n nr ni nq (drop (length_of i) bytes) (omega arith) g.1)) h

-- ---- four gates of one kind, one after another
pub record Four (file : List ℕ) (at kind : ℕ) : Type 0 where
  pub first : field_of file (at + 2) ≡ kind
  pub second : field_of file (at + 12) ≡ kind
  pub third : field_of file (at + 22) ≡ kind
  pub fourth : field_of file (at + 32) ≡ kind

-- what code that tries the four kinds needs
module _ (file : List ℕ) (at kind : ℕ) (low : 5 ≤ kind) (high : kind ≤ 6) (s : Standing 4 (drop at file)) where
  abbrev Left : ℕ → ℕ → Type 0
  Left n place = Formed n s.nr s.ni s.nq (drop place file)

  ready_at : (n place : ℕ) → Left (suc n) place → ReadyAt file place s.nr s.ni s.nq
  ready_at n place f = some-ready (suc n) s.nr s.ni s.nq file place (omega arith) f

  room_at : (n place : ℕ) → Left (suc n) place → place + 6 ≤ length file
  room_at n place f = ready-room file place _ _ _ (ready_at n place f)

  passed : (n place named next : ℕ) → named ≡ place + 2 → next ≡ place + 10 → Left (suc n) place → field_of file named ≡ kind → Left n next
  passed n place named next p q f k = rw q (by (gate_named file place kind low high (rw p at k)))
    where
      by : GateNamed file place → Left n (place + 10)
      by g =
          let stands = (by_kind file place _ _ _ (ready_at n place f) g.named).0 in
          rw g.long at (formed-next n _ _ _ file place g.i stands.reads f)

  pub four_room : at + 6 ≤ length file
  four_room = room_at 3 at s.formed

  module _ (k : field_of file (at + 2) ≡ kind) where
    three_left : Left 3 (at + 10)
    three_left = passed 3 at _ _ refl refl s.formed k

    pub three_room : at + 16 ≤ length file
    three_room = omega (arith, room_at 2 (at + 10) three_left)

    module _ (l : field_of file (at + 12) ≡ kind) where
      two_left : Left 2 (at + 20)
      two_left = passed 2 (at + 10) (at + 12) (at + 20) (omega arith) (omega arith) three_left l

      pub two_room : at + 26 ≤ length file
      two_room = omega (arith, room_at 1 (at + 20) two_left)

      pub one_room : field_of file (at + 22) ≡ kind → at + 36 ≤ length file
      one_room m = omega (arith, room_at 0 (at + 30) (passed 1 (at + 20) (at + 22) (at + 30) (omega arith) (omega arith) two_left m))
