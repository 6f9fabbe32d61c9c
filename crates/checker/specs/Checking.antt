-- The turns of a check that marks what it has seen: what is left from here is answered as the whole is. Assumes nothing.
use Rattle.std.specs.Prelude.{ℕ, suc, ◌+◌, ◌-◌, ◌≤◌, ◌<◌, ◌≡◌, refl, Bool, true, false, not, length, drop, replicate}
use Rattle.std.proofs.Common.{sym, ◌∙◌, arith, length-drop}
use Rattle.std.proofs.Math.Path.{fun_ext}
use mathlib.Core.List.{List}
use borrow.Author.Tests.{lt-ltb, le-ltb}
use Rattle.std.proofs.lemmas.List.{length-replicate}
use Rattle.laws.specs.Sums.{any}
use Rattle.laws.specs.Lists.{all_replicate}
use Rattle.laws.specs.Outcome.{Outcome, refused, gives, mapped, bound, gives_inj}
use Rattle.programs.specs.Limits.{most_registers, most_inputs, most_outputs, most_instructions, within, unwritten, unset}
use Rattle.programs.specs.Instructions.{uses, length_of}
use Rattle.programs.specs.Header.{header_length, header_under, header_of}
use Rattle.programs.specs.Reading.{within_means}
use Rattle.programs.specs.declared.description.Program.{Program}
use Rattle.programs.specs.declared.description.Instruction.{Instruction}
use Rattle.checker.specs.Checks.{Code, instruction_of, code_of, nothing, check_under, check_of}
use Rattle.checker.specs.Operands.{flagged, Flags, admit_room}
use Rattle.checker.specs.GateRuns.{rest_of, Passes, mapped-after, rest_more}

-- ---- the whole body
abbrev pub whole_of : List ℕ → Program → Outcome Program
whole_of file p = rest_of file p nothing nothing p.count header_length

pub record Checking (file : List ℕ) (p : Program) (n at : ℕ) (w s : List Bool) : Type 0 where
  pub same : rest_of file p (flagged w) (flagged s) n at ≡ whole_of file p
  pub inside : at ≤ length file
  pub long : length w ≡ most_registers
  pub wide : length s ≡ most_outputs

fresh_flags : (n : ℕ) → flagged (replicate n false) ≡ nothing
fresh_flags n = fun_ext (λ r. all_replicate (λ x. x ≡ false) false n refl r)

module _ (file : List ℕ) (p : Program) where
  pub checking_none : (n : ℕ) (w s : List Bool) → n ≡ p.count → header_length ≤ length file → w ≡ unwritten → s ≡ unset →
      Checking file p n header_length w s
  unfolding unwritten unset
  checking_none n w s q h e f =
      record {
        same = rw (q, e, f, fresh_flags most_registers, fresh_flags most_outputs);
        inside = h;
        long = rw e (length-replicate most_registers false);
        wide = rw f (length-replicate most_outputs false);
      }

  module _ (n at : ℕ) (w s : List Bool) (g : Checking file p n at w s) where
    module _ (l : 0 < n) where
      one_left : rest_of file p (flagged w) (flagged s) (suc (n - 1)) at ≡ whole_of file p
      one_left =
          let q : n ≡ suc (n - 1) = omega arith in
          rw q at g.same

      pub checking_refused : (k : ℕ) → refused k ≡ instruction_of p (flagged w) (drop at file) → refused k ≡ whole_of file p
      unfolding rest_of code_of
      checking_refused k e = rw (← e) at one_left

      -- the turn of a loop: this instruction, its marks, and the gates behind it
      module _ (i : Instruction) (reads : gives i ≡ instruction_of p (flagged w) (drop at file)) (len : ℕ) (is-len : len ≡ length_of i)
          (w' s' : List Bool) (a : Flags (uses i).writes w w') (b : Flags (uses i).sets s s') where
        behind : Checking file p (n - 1) (at + len) w' s'
        behind =
            rw is-len (record {
              same = rw (a.now_flagged, b.now_flagged)
                  (sym (rest_more file p (flagged w) (flagged s) (n - 1) at i (sym reads)) ∙ one_left);
              inside = admit_room file at p (flagged w) i reads;
              long = a.long ∙ g.long;
              wide = b.long ∙ g.wide;
            })

        pub turn_ready : within p ≡ true → (p.registers ≤ most_registers) × (length w' ≡ most_registers) × (at + len ≤ length file)
        turn_ready v = ((within_means p v).few_registers, behind.long, behind.inside)

        pub turn_done : (n' at' : ℕ) (w'' : List Bool) → Passes file p.registers (n - 1) (at + len) w' n' at' w'' →
            Checking file p n' at' w'' s'
        turn_done n' at' w'' q =
            record {
              same = q.same p refl (flagged s') ∙ behind.same;
              inside = q.inside;
              long = q.long ∙ behind.long;
              wide = behind.wide;
            }

    -- the end: bytes left over, or an output not set, or none of both
    module _ (z : n ≤ 0) where
      none_left : rest_of file p (flagged w) (flagged s) 0 at ≡ whole_of file p
      none_left =
          let q : n ≡ 0 = omega arith in
          rw q at g.same

      pub checking_left : at < length file → refused 4 ≡ whole_of file p
      unfolding rest_of code_of
      checking_left h = rw (length-drop at file, lt-ltb 0 (length file - at) (omega arith)) at none_left

      pub checking_unset : length file ≤ at → any p.outputs (λ o. not (flagged s o)) ≡ true → refused 10 ≡ whole_of file p
      unfolding rest_of code_of
      checking_unset h e = rw (length-drop at file, le-ltb 0 (length file - at) (omega arith), e) at none_left

      pub checking_done : length file ≤ at → any p.outputs (λ o. not (flagged s o)) ≡ false → gives p ≡ whole_of file p
      unfolding rest_of code_of
      checking_done h e = rw (length-drop at file, le-ltb 0 (length file - at) (omega arith), e) at none_left

-- ---- header, then body
module _ (file : List ℕ) where
  pub check_refused : (k : ℕ) → refused k ≡ header_of file → refused k ≡ mapped (λ c. c.program) (check_of file)
  unfolding check_under
  check_refused k e = rw (← e)

  module _ (p : Program) (e : gives p ≡ header_of file) where
    pub check_body : (o : Outcome Program) → o ≡ whole_of file p →
        o ≡ mapped (λ c. c.program) (check_of file)
    unfolding check_under rest_of
    check_body o q =
        q ∙ (sym (mapped-after p (λ (c : Code). c.program) (λ (is : List Instruction). record { program = p; instructions = is })
        (λ is. refl) (code_of p.count p nothing nothing (drop header_length file))) ∙ rw (← e))

-- what a check that has passed says: header, then instructions
pub check_says_under : (wide long : ℕ) (file : List ℕ) (c : Code) → check_under wide long file ≡ gives c →
    (header_under wide long file ≡ gives c.program) ×
    (code_of c.program.count c.program nothing nothing (drop header_length file) ≡ gives c.instructions)
unfolding check_under
check_says_under wide long file c e =
    let c1 = bound (header_under wide long file) _ c e in
    let c2 = bound (code_of c1.0.count c1.0 nothing nothing (drop header_length file)) _ c c1.2 in
    let same = gives_inj c2.2 in
    rw (← same) (c1.1, c2.1)

-- at the limits
pub check_says : (file : List ℕ) (c : Code) → check_of file ≡ gives c →
    (header_of file ≡ gives c.program) ×
    (code_of c.program.count c.program nothing nothing (drop header_length file) ≡ gives c.instructions)
check_says = check_says_under most_inputs most_instructions
