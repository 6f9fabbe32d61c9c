-- Runs of ANDs and ORs that leave a check's answer as it is: one gate more. Assumes nothing.
use Rattle.std.specs.Prelude.{ℕ, suc, ◌+◌, ◌-◌, ◌*◌, ◌≤◌, ◌<◌, ◌≡◌, Bool, true, List, length, set, drop}
use Rattle.std.proofs.Common.{sym, ◌∙◌, arith, length-set}
use Rattle.laws.specs.Outcome.{gives}
use Rattle.fields.specs.Fields.{field_of}
use Rattle.programs.specs.declared.description.Program.{Program}
use Rattle.checker.specs.Checks.{instruction_of}
use Rattle.checker.specs.Standing.{first_of, GateNamed, gate_named, decodes}
use Rattle.checker.specs.Operands.{flagged, range-holds, flag_set, also-none}
use Rattle.checker.proofs.Admitting.{admit_gives}
use Rattle.checker.specs.GateRuns.{rest_of, rest_more, SoundGate, GateRun, Passes}

-- one gate more: length and kind are tried as one number
module _ (file : List ℕ) (registers count from kind : ℕ) (w₀ : List Bool) (c : GateRun file from kind registers w₀) (done at : ℕ)
    (w : List Bool) (g : Passes file registers count from w₀ (count - done) at w) (l : done < count) (room : at + 10 ≤ length file)
    (s : SoundGate file at registers w) (to : ℕ) (is-to : to ≡ first_of file at) where
  gate : field_of file at ≡ 10 → GateNamed file at → Passes file registers count from w₀ (count - (done + 1)) (at + 10) (set w to true)
  gate len n =
      record {
        same = λ p r t. (sym (step p r t) ∙ rw left at (g.same p r t));
        less = omega (arith, g.less);
        inside = room;
        long = length-set w to true ∙ g.long;
      }
    where
      left : count - done ≡ suc (count - (done + 1))
      left = omega arith

      step : (p : Program) → p.registers ≡ registers → (t : ℕ → Bool) → rest_of file p (flagged w) t (suc (count - (done + 1))) at ≡
          rest_of file p (flagged (set w to true)) t (count - (done + 1)) (at + 10)
      step p r t =
          let u = n.used in
          let into : to < length w = omega (arith, s.into, g.long, c.long, c.few) in
          let e : gives n.i ≡ instruction_of p (flagged w) (drop at file) =
          admit_gives file at p (flagged w) n.i (decodes file at n.i (omega (arith, n.long)) (len ∙ sym n.long) n.named)
          (range-holds p n.i (rw (u, r) ((s.into, tt), (s.left, (s.right, tt)), tt, tt)))
          (rw (u, s.left_written, s.right_written)) in
          rw (flag_set w to into, is-to)
          (rw (u, n.long, ← also-none t) at (rest_more file p (flagged w) t (count - (done + 1)) at n.i (sym e)))

  pub passes_turn : (head : ℕ) → (head ≡ field_of file at + 65536 * field_of file (at + 2)) × (field_of file at < 65536) →
      head ≡ 10 + 65536 * kind → Passes file registers count from w₀ (count - (done + 1)) (at + 10) (set w to true)
  passes_turn head h q =
      gate (omega (arith, h.0, h.1)) (gate_named file at kind c.low c.high (omega (arith, h.0, h.1)))
