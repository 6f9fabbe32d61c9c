-- The turns of a run that goes through gates: what is left from here ends where the whole ends. Assumes nothing.
use Prim.Native.Nat.{ℕ, zero, suc, ◌+◌, ◌*◌, ◌-◌, ◌≤◌, ◌<◌}
use Rattle.std.specs.Prelude.{◌≡◌, refl, List, length, drop}
use Rattle.std.proofs.Common.{sym, ◌∙◌, ⊎_elim, eq-or-lt_of_le, le_of_suc-le-suc}
use native.Mathlib.Omega.{arith}
use Rattle.fields.specs.Fields.{field_of}
use Rattle.programs.specs.Instructions.{length_of}
use Rattle.checker.specs.Standing.{Standing, ReadyAt, Gate, some-ready, ready-room, formed-next}
use Rattle.machine.specs.Steps.{Connective, conjunction, disjunction, gate_kind, gate_at, gate_words, Kinds, Gates, gates_words}
use Rattle.machine.proofs.GateSteps.{gate_long, is_gate, does_gate}
use Rattle.machine.specs.Turns.{Along, going_step, going_ready, along_ready, Next, NextFour}

-- ---- gates one after another
module _ {file : List ℕ} {n₀ from : ℕ} {rs₀ : List ℕ} {n at : ℕ} {rs : List ℕ} {a : Along file n₀ from rs₀ n at rs} {g : Connective} where
  pub next_gate : Next a g → Gate file at (length rs)
  next_gate t = (is_gate (along_ready a t.some) refl g t.kind).1

  pub gate_done : Next a g → {rs' : List ℕ} → rs' ≡ gate_words g file at rs → Along file n₀ from rs₀ (n - 1) (at + 10) rs'
  gate_done t {rs'} q =
      record {
        known = a.known;
        goes = λ ins os f.
            let h = a.goes ins os f in
            going_step h t.some (does_gate (record { ready = going_ready h t.some; kind = refl }) g t.kind q);
        less = omega (arith, a.less);
        long = gate_long g file at rs rs' q ∙ a.long;
      }

module _ {file : List ℕ} {n₀ from : ℕ} {rs₀ : List ℕ} {n at : ℕ} {rs : List ℕ} {a : Along file n₀ from rs₀ n at rs} {g : Connective}
    (t : NextFour a g) where
  -- k of the four are done, and the next of them
  pub gates_done : (k : ℕ) → k ≤ 4 → Along file n₀ from rs₀ (n - k) (at + k * 10) (gates_words g file at k rs)
  unfolding gates_words
  gates_done zero l =
      let left : n - 0 ≡ n = omega arith in
      let place : at + 0 ≡ at = omega arith in
      rw (left, place) a
  gates_done (suc k) l =
      let left : n - suc k ≡ n - k - 1 = omega arith in
      let place : at + suc k * 10 ≡ at + k * 10 + 10 = omega arith in
      let s = t.some in
      rw (left, place)
      (gate_done {a = gates_done k (omega arith)} (record { some = omega arith; kind = t.kinds k l }) refl)

  gates_next : (k : ℕ) (l : k < 4) → Next (gates_done k (omega arith)) g
  gates_next k l = let s = t.some in record { some = omega arith; kind = t.kinds k l }

  pub gates_stand : Gates file at (length rs) 4
  gates_stand k l =
      let d = gates_done k (omega arith) in
      rw (d.long ∙ sym a.long) at (next_gate (gates_next k l))

  -- all four have room
  pub gates-room : at + 40 ≤ length file
  gates-room = let h = (gates_stand 3 (omega arith)).room in omega arith

-- ---- four gates of which k have been tried
length_gate : (g : Connective) (file : List ℕ) (at : ℕ) → length_of (gate_at g file at) ≡ 10
length_gate conjunction file at = refl
length_gate disjunction file at = refl

pub record Tried (g : Connective) (file : List ℕ) (at k : ℕ) : Type 0 where
  pub left : Standing (4 - k) (drop (at + k * 10) file)
  pub kinds : Kinds g file at k

module _ {g : Connective} {file : List ℕ} {at : ℕ} where
  pub tried_none : Standing 4 (drop at file) → Tried g file at 0
  tried_none s =
      let place : at + 0 ≡ at = omega arith in
      record { left = rw place s; kinds = λ k l. absurd (omega arith) }

  module _ {k : ℕ} (t : Tried g file at k) (l : k < 4) where
    ready : ReadyAt file (at + k * 10) t.left.nr t.left.ni t.left.nq
    ready = some-ready (4 - k) _ _ _ file (at + k * 10) (omega arith) t.left.formed

    pub tried_room : at + k * 10 + 6 ≤ length file
    tried_room = ready-room file _ _ _ _ ready

    after : (h : Connective) → field_of file (at + k * 10 + 2) ≡ gate_kind h → Standing (4 - (k + 1)) (drop (at + k * 10 + 10) file)
    after h e =
        let s = t.left in
        let more : 4 - k ≡ suc (4 - (k + 1)) = omega arith in
        let long = length_gate h file (at + k * 10) in
        record {
          nr = s.nr;
          ni = s.ni;
          nq = s.nq;
          formed = rw long at
              (formed-next (4 - (k + 1)) _ _ _ file (at + k * 10) (gate_at h file (at + k * 10)) (is_gate ready refl h e).0.reads
              (rw more at s.formed));
        }

    pub tried_more : field_of file (at + k * 10 + 2) ≡ gate_kind g → Tried g file at (k + 1)
    tried_more e =
        let place : at + (k + 1) * 10 ≡ at + k * 10 + 10 = omega arith in
        record {
          left = rw place (after g e);
          kinds = λ j m. ⊎_elim (λ (q : j ≡ k). rw q e) (t.kinds j) (eq-or-lt_of_le (le_of_suc-le-suc (omega (arith, m))));
        }
