-- The ways through the checks of an instruction and of a header, and what the limits say. Assumes nothing.
use Rattle.std.specs.Prelude.{ℕ, ◌+◌, ◌-◌, ◌*◌, ◌^◌, ◌≤◌, ◌<◌, ◌≡◌, Bool, ◌&&◌, List, ◌∷◌, eqb, ltb, length, take, drop}
use Rattle.std.proofs.Math.Path.{refl}
use Rattle.std.proofs.Common.{sym, ap, ◌∙◌, length-drop}
use Rattle.std.proofs.Math.Bool.{true, false, cond}
use native.Mathlib.Omega.{arith}
use borrow.Author.Tests.{lt-ltb, le-ltb, ltb-false, le-leb, leb-true, eq-eqb, ne_eqb, eqb-true, not-true}
use Rattle.laws.specs.Tests.{both, neither}
use Rattle.laws.specs.Lists.{rest_is}
use Rattle.laws.specs.Lay.{lay_at, lay_at-nothing}
use Rattle.laws.specs.Outcome.{Outcome, refused, gives, mapped, laid, ◌>>=◌}
use Rattle.fields.specs.Fields.{field_of}
use Rattle.fields.specs.Limits.{outside}
use Rattle.programs.specs.Width.{row_bits, ranged, few_bits}
use Rattle.programs.specs.Limits.{most_registers, most_inputs, most_outputs, most_rows, most_instructions}
use Rattle.programs.specs.Limits.{among, value_bits, suited, within_under, within}
use Rattle.programs.specs.Records.{record_bytes, length_record}
use Rattle.programs.specs.Instructions.{of_kind, sized_of, kind_of, length_of, operands_of, instruction_bytes, encode_of, decode_of}
use Rattle.programs.specs.Instructions.{decode_at}
use Rattle.programs.specs.Header.{header_length, header_kind, header_bytes, numbers_of}
use Rattle.programs.specs.Header.{header_under, header_of, limits_of, write_header_under, write_header_of}
use Rattle.programs.specs.declared.description.Program.{Program}
use Rattle.programs.specs.declared.description.Instruction.{Instruction}
use Rattle.programs.specs.declared.description.Instruction.TheVariants.{Ones, Zero, Input, Not, And, Or, Output}

-- ---- the limits
among_means : (most x : ℕ) → among most x ≡ true → (1 ≤ x) × (x ≤ most)
among_means most x e =
    let s = neither (ltb x 1) (ltb most x) (not-true (outside most x) e) in
    (ltb-false x 1 s.0, ltb-false most x s.1)

pub among-limits : (most x : ℕ) → 1 ≤ x → x ≤ most → among most x ≡ true
among-limits most x a b = rw (le-ltb x 1 a, le-ltb most x b)

-- what numbers within their limits are
pub record WithinUnder (wide long : ℕ) (p : Program) : Type 0 where
  pub some_registers : 1 ≤ p.registers
  pub few_registers : p.registers ≤ most_registers
  pub some_inputs : 1 ≤ p.inputs
  pub few_inputs : p.inputs ≤ wide
  pub some_outputs : 1 ≤ p.outputs
  pub few_outputs : p.outputs ≤ most_outputs
  pub some_rows : 1 ≤ p.rows
  pub few_rows : p.rows ≤ most_rows
  pub outputs_suit : p.outputs ≡ 1 + row_bits p.rows
  pub few_instructions : p.count ≤ long

-- rows and outputs that suit each other
module _ (rows outputs : ℕ) where
  pub suited_means : suited rows outputs ≡ true → (1 ≤ rows) × (rows ≤ most_rows) × (outputs ≡ 1 + row_bits rows)
  suited_means e =
      let s = both (among most_rows rows) (eqb outputs (1 + row_bits rows)) e in
      let r = among_means most_rows rows s.0 in
      (r.0, r.1, eqb-true outputs (1 + row_bits rows) s.1)

  pub suited-holds : 1 ≤ rows → rows ≤ most_rows → outputs ≡ 1 + row_bits rows → suited rows outputs ≡ true
  suited-holds a b e = rw (among-limits most_rows rows a b, eq-eqb outputs (1 + row_bits rows) e)

-- the value bits as code has them, by ranges
module _ (rows : ℕ) where
  pub bits-among : 1 ≤ rows → rows ≤ most_rows → value_bits rows ≡ row_bits rows
  unfolding value_bits
  bits-among a b = rw (among-limits most_rows rows a b)

  pub bits_ranged : (k : ℕ) → 2 ^ k < 2 * rows → rows ≤ 2 ^ k → 1 ≤ rows → rows ≤ most_rows → k ≡ value_bits rows
  bits_ranged k a b c d = ranged rows k a b ∙ sym (bits-among c d)

  pub bits_below : rows < 1 → 0 ≡ value_bits rows
  unfolding value_bits
  bits_below h = rw (lt-ltb rows 1 h)

  pub bits_above : 1 ≤ rows → most_rows < rows → 0 ≡ value_bits rows
  unfolding value_bits
  bits_above a h = rw (le-ltb rows 1 a, lt-ltb most_rows rows h)

  pub bits-few : value_bits rows ≤ 7
  unfolding value_bits
  bits-few = go (among most_rows rows) refl
    where
      go : (b : Bool) → among most_rows rows ≡ b → cond b (row_bits rows) 0 ≤ 7
      go true e = few_bits rows (among_means most_rows rows e).1
      go false e = omega arith

  -- so code tries whether outputs suit them
  pub suits : (outputs k : ℕ) (b : Bool) → b ≡ among most_rows rows → k ≡ value_bits rows → (b && eqb outputs (1 + k)) ≡ suited rows outputs
  unfolding value_bits
  suits outputs k true e q = rw (q, ← e)
  suits outputs k false e q = rw (← e)

module _ (wide long : ℕ) (p : Program) where
  pub under_means : within_under wide long p ≡ true → WithinUnder wide long p
  under_means e =
      let abcd = both _ _ e in
      let abc = both _ _ abcd.0 in
      let ab = both _ _ abc.0 in
      let a = both _ _ ab.0 in
      let r = among_means most_registers p.registers a.0 in
      let i = among_means wide p.inputs a.1 in
      let o = among_means most_outputs p.outputs ab.1 in
      let s = suited_means p.rows p.outputs abc.1 in
      record {
        some_registers = r.0;
        few_registers = r.1;
        some_inputs = i.0;
        few_inputs = i.1;
        some_outputs = o.0;
        few_outputs = o.1;
        some_rows = s.0;
        few_rows = s.1;
        outputs_suit = s.2;
        few_instructions = leb-true p.count long abcd.1;
      }

  pub under_holds : WithinUnder wide long p → within_under wide long p ≡ true
  under_holds w =
      rw (
        among-limits most_registers p.registers w.some_registers w.few_registers,
        among-limits wide p.inputs w.some_inputs w.few_inputs,
        among-limits most_outputs p.outputs w.some_outputs w.few_outputs,
        suited-holds p.rows p.outputs w.some_rows w.few_rows w.outputs_suit,
        le-leb p.count long w.few_instructions,
      )

-- at the limits
abbrev pub Within : Program → Type 0
Within = WithinUnder most_inputs most_instructions

pub within_means : (p : Program) → within p ≡ true → Within p
within_means = under_means most_inputs most_instructions

-- numbers whose rows and outputs do not suit each other are outside, whatever the others are
pub within-not : (p : Program) → suited p.rows p.outputs ≡ false → within p ≡ false
within-not p u = go (within p) refl
  where
    go : (b : Bool) → within p ≡ b → b ≡ false
    go true e =
        let w = within_means p e in
        sym (suited-holds p.rows p.outputs w.some_rows w.few_rows w.outputs_suit) ∙ u
    go false e = refl

pub limits_hold : (p : Program) → Within p → within p ≡ true
limits_hold = under_holds most_inputs most_instructions

-- ---- an instruction
pub decode_beyond : (file : List ℕ) (at : ℕ) → length file < at → refused 1 ≡ decode_at file at
unfolding decode_at decode_of
decode_beyond file at h = rw (length-drop at file, lt-ltb (length file - at) 4 (omega arith))

-- the rest of the file, as the code takes it
pub decode_part : (file : List ℕ) (at : ℕ) (o : Outcome Instruction) →
    o ≡ decode_of (take (length file - at) (drop at file)) → o ≡ decode_at file at
unfolding decode_at
decode_part file at o e = e ∙ ap decode_of (rest_is at file)

pub decode_kind : (bytes : List ℕ) (len : ℕ) → len ≡ field_of bytes 0 → 4 ≤ length bytes → len ≤ length bytes → (kind to a b : ℕ) →
    to ≡ field_of bytes 4 → a ≡ field_of bytes 6 → b ≡ field_of bytes 8 → kind ≡ field_of bytes 2 →
    decode_of bytes ≡ (of_kind kind to a b >>= sized_of len)
unfolding decode_of
decode_kind bytes len is-len h l kind to a b is-to is-a is_b is-kind =
    rw (le-ltb (length bytes) 4 h, ← is-len, le-ltb (length bytes) len l, is-to, is-a, is_b, is-kind)

-- ---- writing an instruction
pub length_fields : (i : Instruction) → length_of i ≡ 2 * (2 + length (operands_of i))
length_fields (Ones to) = refl
length_fields (Zero to) = refl
length_fields (Input to n) = refl
length_fields (Not to a) = refl
length_fields (And to a b) = refl
length_fields (Or to a b) = refl
length_fields (Output o a) = refl

pub length_instruction : (i : Instruction) → length (instruction_bytes i) ≡ length_of i
unfolding instruction_bytes
length_instruction i = omega (arith, length_record (length_of i ∷ kind_of i ∷ operands_of i), length_fields i)

pub header-long : (p : Program) → length (header_bytes p) ≡ header_length
unfolding header_bytes record_bytes
header-long p = refl

pub encode_gives : (i : Instruction) (at room : ℕ) → at + length_of i ≤ room → encode_of i at room ≡ gives (instruction_bytes i)
unfolding encode_of
encode_gives i at room h = rw (le-ltb room (at + length_of i) h)

-- the two ways in which it ends: its answer, and what the buffer then holds
module _ (i : Instruction) (at : ℕ) (buf : List ℕ) where
  pub encode_no_room : length buf < at + length_of i →
      (refused 13 ≡ mapped length (encode_of i at (length buf))) ×
      (buf ≡ lay_at at (laid (λ bytes. bytes) (encode_of i at (length buf))) buf)
  unfolding encode_of
  encode_no_room h = rw (lt-ltb (length buf) (at + length_of i) h) (refl, lay_at-nothing at buf)

  pub encode_room : (long : ℕ) (now : List ℕ) → long ≡ length_of i → at + length_of i ≤ length buf →
      now ≡ lay_at at (instruction_bytes i) buf →
      (gives long ≡ mapped length (encode_of i at (length buf))) ×
      (now ≡ lay_at at (laid (λ bytes. bytes) (encode_of i at (length buf))) buf)
  encode_room long now q h e = rw (encode_gives i at (length buf) h) (ap gives (q ∙ sym (length_instruction i)), e)

-- ---- a header
-- a file of four bytes or more is tried by its kind, and one under four is too short for that
module _ (file : List ℕ) where
  pub header_foreign : 4 ≤ length file → (field_of file 2 ≡ header_kind → ⊥) → refused 2 ≡ header_of file
  unfolding header_under
  header_foreign a k = rw (le-ltb (length file) 4 a, ne_eqb (field_of file 2) header_kind k)

  pub header-short : 4 ≤ length file → field_of file 2 ≡ header_kind → length file < header_length → refused 1 ≡ header_of file
  unfolding header_under
  header-short a k h = rw (le-ltb (length file) 4 a, eq-eqb (field_of file 2) header_kind k, lt-ltb (length file) header_length h)

-- a file of the kind that has room for a header is tried by its length field, then by what its numbers are
pub header-numbers : (file : List ℕ) → header_length ≤ length file → field_of file 2 ≡ header_kind → (p : Program) → p ≡ numbers_of file →
    header_of file ≡ limits_of file p
unfolding header_under
header-numbers file h k p is-p =
    rw (le-ltb (length file) 4 (omega arith), eq-eqb (field_of file 2) header_kind k, le-ltb (length file) header_length h, is-p)

-- ---- writing a header
module _ (p : Program) (room : ℕ) where
  pub write_header-outside : within p ≡ false → write_header_of p room ≡ refused 3
  unfolding write_header_under
  write_header-outside w = rw w

  pub write_header-short : within p ≡ true → room < header_length → write_header_of p room ≡ refused 13
  unfolding write_header_under
  write_header-short w h = rw (w, lt-ltb room header_length h)

  pub write_header-gives : within p ≡ true → header_length ≤ room → write_header_of p room ≡ gives (header_bytes p)
  unfolding write_header_under
  write_header-gives w h = rw (w, le-ltb room header_length h)
