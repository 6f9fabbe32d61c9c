-- What one instruction does where it stands in a file's bytes, for code that has read its kind and its operands. Assumes nothing.
use Rattle.std.specs.Prelude.{ℕ, ◌+◌, ◌-◌, ◌^◌, ◌≤◌, ◌<◌, ◌≡◌, refl, List, length, get_or, set}
use Rattle.std.proofs.Common.{ap, ◌∙◌, length-set}
use Rattle.fields.specs.Fields.{field_of}
use Rattle.programs.specs.Instructions.{length_of}
use Rattle.programs.specs.declared.description.Instruction.{Instruction}
use Rattle.machine.specs.Meaning.{word_gates, step}
use Rattle.checker.specs.Standing.{Stands, ReadyAt, Gate, ready-room, second-room}
use Rattle.checker.specs.Standing.{is-ones, is_zero, is-input, is-not, is-and, is-or, is_output}
use Rattle.machine.specs.Steps.{state, Connective, gate_kind, gate_op, gate_at, gate_words, Does, Found, Operands, Last, conjunction}
use Rattle.machine.specs.Steps.{disjunction}

-- ---- gates
pub gate_made : (g : Connective) (file : List ℕ) (at : ℕ) (rs : List ℕ) {to a b : ℕ} → to ≡ field_of file (at + 4) →
    a ≡ field_of file (at + 6) → b ≡ field_of file (at + 8) →
    set rs to (gate_op g (get_or rs a 0) (get_or rs b 0)) ≡ gate_words g file at rs
unfolding gate_words
gate_made g file at rs is-to is-a is_b = rw (is-to, is-a, is_b)

-- a gate changes no number of registers
pub gate_long : (g : Connective) (file : List ℕ) (at : ℕ) (rs rs' : List ℕ) → rs' ≡ gate_words g file at rs → length rs' ≡ length rs
unfolding gate_words
gate_long g file at rs rs' e = ap length e ∙ simp length-set

gate_step : (g : Connective) (file : List ℕ) (at : ℕ) (ins rs os : List ℕ) →
    (at + 10 ≡ at + length_of (gate_at g file at)) ×
    (step word_gates ins (gate_at g file at) (state rs os) ≡ state (gate_words g file at rs) os)
unfolding gate_words
gate_step conjunction file at ins rs os = (refl, refl)
gate_step disjunction file at ins rs os = (refl, refl)

pub is_gate : {file : List ℕ} {at nr ni nq k : ℕ} → ReadyAt file at nr ni nq → k ≡ field_of file (at + 2) → (g : Connective) →
    k ≡ gate_kind g → Stands file at (gate_at g file at) × Gate file at nr
is_gate r e conjunction = is-and _ _ _ _ _ r _ e
is_gate r e disjunction = is-or _ _ _ _ _ r _ e

-- ---- what each does, and that its operands are in range
into_register : {file : List ℕ} {at : ℕ} {i : Instruction} (ins rs os : List ℕ) (to x : ℕ) → Stands file at i →
    step word_gates ins i (state rs os) ≡ state (set rs to x) os → Does file at ins rs os (at + length_of i) (set rs to x) os
into_register ins rs os to x s e = record { i = _; reads = s.reads; ahead = refl; does = e; long = length-set rs to x; wide = refl }

module _ {file : List ℕ} {at : ℕ} {ins rs os : List ℕ} {k : ℕ} (f : Found file at ins rs os k) where
  pub first_operand : at + 6 ≤ length file
  first_operand = ready-room file at _ _ _ f.ready

  pub second_operand : (k ≡ 1 → ⊥) → (k ≡ 2 → ⊥) → at + 8 ≤ length file
  second_operand = second-room file at _ _ _ f.ready k f.kind

  pub gate_range : (g : Connective) → k ≡ gate_kind g → Gate file at (length rs)
  gate_range g e = (is_gate f.ready f.kind g e).1

  pub does_gate : (g : Connective) → k ≡ gate_kind g → {rs' : List ℕ} → rs' ≡ gate_words g file at rs →
      Does file at ins rs os (at + 10) rs' os
  does_gate g e {rs'} q =
      let s = gate_step g file at ins rs os in
      record {
        i = gate_at g file at;
        reads = (is_gate f.ready f.kind g e).0.reads;
        ahead = s.0;
        does = rw q s.1;
        long = gate_long g file at rs rs' q;
        wide = refl;
      }

  module _ {to : ℕ} (is-to : to ≡ field_of file (at + 4)) where
    pub does-ones : k ≡ 1 → (to < length rs) × Does file at ins rs os (at + 6) (set rs to (2 ^ 64 - 1)) os
    does-ones e =
        let s = is-ones file at _ _ _ f.ready k f.kind e in
        rw is-to (s.1, into_register ins rs os _ _ s.0 refl)

    pub does-zero : k ≡ 2 → (to < length rs) × Does file at ins rs os (at + 6) (set rs to 0) os
    does-zero e =
        let s = is_zero file at _ _ _ f.ready k f.kind e in
        rw is-to (s.1, into_register ins rs os _ _ s.0 refl)

module _ {file : List ℕ} {at : ℕ} {ins rs os : List ℕ} {k to a : ℕ} (o : Operands file at ins rs os k to a) where
  pub does-input : k ≡ 3 → ((to < length rs) × (a < length ins)) × Does file at ins rs os (at + 8) (set rs to (get_or ins a 0)) os
  does-input e =
      let s = is-input file at _ _ _ o.found.ready k o.found.kind e in
      rw (o.first, o.second) (s.1, into_register ins rs os _ _ s.0 refl)

  pub does_not : k ≡ 4 → ((to < length rs) × (a < length rs)) ×
      Does file at ins rs os (at + 8) (set rs to ((2 ^ 64 - 1) - get_or rs a 0)) os
  does_not e =
      let s = is-not file at _ _ _ o.found.ready k o.found.kind e in
      rw (o.first, o.second) (s.1, into_register ins rs os _ _ s.0 refl)

  pub does_output : Last k → ((to < length os) × (a < length rs)) × Does file at ins rs os (at + 8) rs (set os to (get_or rs a 0))
  does_output l =
      let s =
      is_output file at _ _ _ o.found.ready k o.found.kind l.ones l.zero l.input l.not l.and l.or in
      rw (o.first, o.second)
      (s.1, record { i = _; reads = s.0.reads; ahead = refl; does = refl; long = refl; wide = length-set os _ _ })
