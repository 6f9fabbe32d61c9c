-- 02, order 3: what a program file that is cut comes to. Assumes nothing.
use Rattle.std.specs.Prelude.{ℕ, suc, ◌+◌, ◌-◌, ◌≤◌, ◌<◌, ◌≡◌, Bool, true, List, [], ◌∷◌, ◌++◌, ◌⊎◌, get_or, take}
use Rattle.std.proofs.Math.Path.{ap, subst}
use Rattle.std.proofs.Common.{◌∙◌, inl, inr, ⊎_elim, arith, length-take-le}
use Rattle.std.proofs.Math.Logic.{⊎_map}
use Rattle.std.proofs.Math.ListN.{length, length-append}
use Rattle.std.proofs.Math.Seq.{take-append-add, drop_at}
use Rattle.laws.specs.Tests.{lt-or_ge}
use Rattle.laws.specs.Every.{every, each-every, OneOf}
use Rattle.laws.specs.Lists.{Each}
use Rattle.laws.specs.Outcome.{refused, gives}
use Rattle.fields.specs.Fields.{field_of, field-front}
use Rattle.programs.specs.Instructions.{uses, length_of, instruction_bytes}
use Rattle.programs.specs.Header.{header_length, header_kind, header_bytes, code_bytes, program_file}
use Rattle.programs.specs.Reading.{length_instruction, header-long}
use Rattle.programs.specs.Inverse.{decode_written, header-written, header-reads}
use Rattle.programs.specs.Foreign.{decode_cut}
use Rattle.programs.specs.declared.description.Program.{Program}
use Rattle.programs.specs.declared.description.Instruction.{Instruction}
use Rattle.checker.specs.Checks.{Code, also, in_range, instruction_of, code_of, nothing, check_under, check_of}
use Rattle.checker.specs.Operands.{range-holds}
use Rattle.checker.specs.Checking.{check_says}
use Rattle.checker.specs.Accepting.{Fits, Ready, Nowhere, Sound, also-holds}
use Rattle.checker.proofs.Encoding.{accepted-is, accepted-sound}
use Rattle.checker.specs.Foreign.{check_few, check_short}

-- ---- an accepted program file is 1 wherever it is cut
-- a cut in the first of some instructions, or behind it
module _ (i : Instruction) (rest : List ℕ) (m : ℕ) (p : Program) (written set : ℕ → Bool) where
  cut_here : (n : ℕ) → n < length_of i → code_of (suc m) p written set (take n (instruction_bytes i ++ rest)) ≡ refused 1
  unfolding code_of instruction_of
  cut_here n h = rw (decode_cut i rest n h)

  cut_behind : in_range p i ≡ true → every written (uses i).reads ≡ true → (n : ℕ) →
      code_of m p (also written (uses i).writes) (also set (uses i).sets) (take n rest) ≡ refused 1 →
      code_of (suc m) p written set (take (length_of i + n) (instruction_bytes i ++ rest)) ≡ refused 1
  unfolding code_of instruction_of
  cut_behind r w n e =
      rw (
        ← (length_instruction i),
        take-append-add (instruction_bytes i) rest n,
        decode_written i (take n rest),
        r,
        w,
        drop_at (instruction_bytes i) (take n rest) (length_of i) (length_instruction i),
        e,
      )

  cut_either : in_range p i ≡ true → every written (uses i).reads ≡ true → (n : ℕ) →
      (length_of i ≤ n → code_of m p (also written (uses i).writes) (also set (uses i).sets) (take (n - length_of i) rest) ≡ refused 1) →
      code_of (suc m) p written set (take n (instruction_bytes i ++ rest)) ≡ refused 1
  cut_either r w n later = ⊎_elim (cut_here n) behind (lt-or_ge n (length_of i))
    where
      behind : length_of i ≤ n → code_of (suc m) p written set (take n (instruction_bytes i ++ rest)) ≡ refused 1
      behind l =
          let at : length_of i + (n - length_of i) ≡ n = omega arith in
          subst (λ (k : ℕ). code_of (suc m) p written set (take k (instruction_bytes i ++ rest)) ≡ refused 1) at
          (cut_behind r w (n - length_of i) (later l))

-- instructions, where those before them wrote what is in W
code_cut : (is : List Instruction) (p : Program) (W : ℕ → Type 0) (written set : ℕ → Bool) → ((r : ℕ) → W r → written r ≡ true) →
    Each (Fits p) is → Ready W is Nowhere → (n : ℕ) → n < length (code_bytes is) →
    code_of (length is) p written set (take n (code_bytes is)) ≡ refused 1
unfolding code_bytes
code_cut [] p W written set w f e n h = absurd (omega arith)
code_cut (i ∷ is) p W written set w f e n h =
    cut_either i (code_bytes is) (length is) p written set (range-holds p i f.0) (each-every written W (uses i).reads w e.0) n
    (λ l. code_cut is p (λ r. OneOf (uses i).writes r ⊎ W r) (also written (uses i).writes) (also set (uses i).sets)
    (λ r x. also-holds written (uses i).writes r (⊎_map (λ y. y) (w r) x)) f.1 e.1 (n - length_of i)
    (omega (arith, length-append (instruction_bytes i) (code_bytes is), length_instruction i)))

-- behind a header that is whole
module _ (p : Program) (is : List Instruction) (s : Sound p is) where
  sound_cut : (n : ℕ) → n < length (code_bytes is) → check_of (header_bytes p ++ take n (code_bytes is)) ≡ refused 1
  unfolding check_under
  sound_cut n h =
      rw (
        header-written p (take n (code_bytes is)) s.limits,
        drop_at (header_bytes p) (take n (code_bytes is)) header_length (header-long p),
        ap (λ (k : ℕ). code_of k p nothing nothing (take n (code_bytes is))) s.counted ∙
            code_cut is p Nowhere nothing nothing (λ r x. absurd x) s.in_range s.written n h,
      )

  program_cut : (n : ℕ) → header_length ≤ n → n < length (program_file p is) → check_of (take n (program_file p is)) ≡ refused 1
  unfolding program_file
  program_cut n l h =
      let at : length (header_bytes p) + (n - header_length) ≡ n = omega (arith, header-long p) in
      subst (λ (k : ℕ). check_of (take k (header_bytes p ++ code_bytes is)) ≡ refused 1) at
      (rw (take-append-add (header_bytes p) (code_bytes is) (n - header_length))
      (sound_cut (n - header_length) (omega (arith, length-append (header_bytes p) (code_bytes is), header-long p))))

pub check_cut : (file : List ℕ) (c : Code) → ((k : ℕ) → get_or file k 0 < 256) → check_of file ≡ gives c → (n : ℕ) → n < length file →
    check_of (take n file) ≡ refused 1
check_cut file c byte e n h = cut (lt-or_ge n 4) (lt-or_ge n header_length)
  where
    long : length (take n file) ≡ n
    long = length-take-le n file (omega arith)

    kind : field_of file 2 ≡ header_kind
    kind = (header-reads file c.program (check_says file c e).0).kind

    cut : (n < 4) ⊎ (4 ≤ n) → (n < header_length) ⊎ (header_length ≤ n) → check_of (take n file) ≡ refused 1
    cut (inl l) t = check_few (take n file) (omega (arith, long))
    cut (inr l) (inl t) =
        check_short (take n file) (omega (arith, long)) (field-front n file 2 (omega arith) ∙ kind) (omega (arith, long))
    cut (inr l) (inr t) =
        let whole = accepted-is file c byte e in
        rw whole (program_cut c.program c.instructions (accepted-sound file c e) n t (rw whole at h))
