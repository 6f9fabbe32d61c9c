-- An accepted program file is the encoding of its header and instructions, and what acceptance means in plain words. Assumes nothing.
use Rattle.std.specs.Prelude.{ℕ, zero, suc, ◌+◌, ◌≤◌, ◌<◌, ◌≡◌, refl, Bool, true, false, not, List, [], ◌∷◌, ◌++◌, ◌⊎◌, ◌↔◌, ltb, length}
use Rattle.std.specs.Prelude.{get_or, drop}
use Rattle.std.proofs.Common.{sym, ap, ◌∙◌, inl, inr, ⊎_elim, arith, ltb-false, get_or-drop}
use Rattle.std.proofs.Math.Logic.{⊎_map}
use Rattle.std.proofs.lemmas.Bool.{not-false}
use Rattle.laws.specs.Every.{OneOf, every-each}
use Rattle.laws.specs.Tests.{never}
use Rattle.laws.specs.Sums.{any, any_false}
use Rattle.laws.specs.Lists.{Each}
use Rattle.laws.specs.Outcome.{gives, passed, bound, gives_inj}
use Rattle.programs.specs.Instructions.{uses, length_of, instruction_bytes}
use Rattle.programs.specs.Header.{header_length, header_bytes, code_bytes, program_file}
use Rattle.programs.specs.Inverse.{header-reads, instruction_back, header-back}
use Rattle.programs.specs.declared.description.Program.{Program}
use Rattle.programs.specs.declared.description.Instruction.{Instruction}
use Rattle.checker.specs.Checks.{Code, also, instruction_of, code_of, nothing, check_of}
use Rattle.checker.specs.Operands.{range_means}
use Rattle.checker.proofs.Admitting.{instruction_means}
use Rattle.checker.specs.Checking.{check_says}
use Rattle.checker.specs.Accepting.{Fits, Ready, Sets, Nowhere, Sound, also-says}
use Rattle.checker.proofs.Accepting.{accepted}
use Rattle.checker.specs.Encoding.{WellFormed, sound-formed, formed-sound}

-- ---- what the checks before a result say
-- of instructions that are read from some bytes, where those before them wrote W and set what passes the test
record Follows (n : ℕ) (p : Program) (W : ℕ → Type 0) (set : ℕ → Bool) (bytes : List ℕ) (is : List Instruction) : Type 0 where
  counted : n ≡ length is
  in_range : Each (Fits p) is
  ready : Ready W is Nowhere
  all_set : (o : ℕ) → o < p.outputs → Sets o is ⊎ (set o ≡ true)
  -- they are the encoding of what is read
  back : ((k : ℕ) → get_or bytes k 0 < 256) → bytes ≡ code_bytes is

code_follows : (n : ℕ) (p : Program) (W : ℕ → Type 0) (written set : ℕ → Bool) (bytes : List ℕ) (is : List Instruction) →
    ((r : ℕ) → written r ≡ true → W r) → code_of n p written set bytes ≡ gives is → Follows n p W set bytes is
unfolding code_of code_bytes
code_follows zero p W written set bytes is w e =
    let c1 = passed 4 (ltb 0 (length bytes)) _ is e in
    let c2 = passed 10 (any p.outputs (λ o. not (set o))) (gives []) is c1.1 in
    rw (← gives_inj c2.1) (record {
      counted = refl;
      in_range = tt;
      ready = λ r x. absurd x;
      all_set = λ o l. inr (not-false (set o) (any_false p.outputs o (λ o. not (set o)) c2.0 l));
      back = λ byte. empty bytes (ltb-false 0 (length bytes) c1.0);
    })
  where
    empty : (l : List ℕ) → length l ≤ 0 → l ≡ []
    empty [] h = refl
    empty (x ∷ l) h = absurd (omega arith)
code_follows (suc n) p W written set bytes is w e =
    let c1 = bound (instruction_of p written bytes) _ is e in
    let i : Instruction = c1.0 in
    let u = uses i in
    let c2 = bound (code_of n p (also written u.writes) (also set u.sets) (drop (length_of i) bytes)) _ is c1.2 in
    let m = instruction_means p written bytes i c1.1 in
    let f =
    code_follows n p (λ r. OneOf u.writes r ⊎ W r) (also written u.writes) (also set u.sets) (drop (length_of i) bytes) c2.0
    (λ r t. ⊎_map (λ y. y) (w r) (also-says written u.writes r t)) c2.1 in
    rw (← gives_inj c2.2) (record {
      counted = ap suc f.counted;
      in_range = (range_means p i m.1, f.in_range);
      ready = (every-each written W u.reads w m.2, f.ready);
      all_set = λ o l. ⊎_elim (λ (x : Sets o c2.0). inl (inr x))
          (λ (x : also set u.sets o ≡ true). ⊎_map (λ y. inl y) (λ y. y) (also-says set u.sets o x)) (f.all_set o l);
      back = λ byte. (instruction_back bytes i byte m.0 ∙
          ap (λ (l : List ℕ). instruction_bytes i ++ l) (f.back (λ k. rw (get_or-drop (length_of i) bytes k 0) (byte (length_of i + k)))));
    })

file_follows : (file : List ℕ) (c : Code) → check_of file ≡ gives c →
    Follows c.program.count c.program Nowhere nothing (drop header_length file) c.instructions
file_follows file c e =
    code_follows c.program.count c.program Nowhere nothing nothing (drop header_length file) c.instructions (λ r t. never t)
    (check_says file c e).1

-- an accepted file is the header and the instructions that are read from it, written again
pub accepted-is : (file : List ℕ) (c : Code) → ((k : ℕ) → get_or file k 0 < 256) → check_of file ≡ gives c →
    file ≡ program_file c.program c.instructions
unfolding program_file
accepted-is file c byte e =
    header-back file c.program byte (check_says file c e).0 ∙
    ap (λ (l : List ℕ). header_bytes c.program ++ l)
    ((file_follows file c e).back (λ k. rw (get_or-drop header_length file k 0) (byte (header_length + k))))

-- so no two accepted files are read alike
pub accepted_one : (file other : List ℕ) (c : Code) → ((k : ℕ) → get_or file k 0 < 256) → ((k : ℕ) → get_or other k 0 < 256) →
    check_of file ≡ gives c → check_of other ≡ gives c → file ≡ other
accepted_one file other c byte byte' e q = accepted-is file c byte e ∙ sym (accepted-is other c byte' q)

-- an accepted program is sound
pub accepted-sound : (file : List ℕ) (c : Code) → check_of file ≡ gives c → Sound c.program c.instructions
accepted-sound file c e =
    let f = file_follows file c e in
    record {
      limits = (header-reads file c.program (check_says file c e).0).inside;
      counted = f.counted;
      in_range = f.in_range;
      written = f.ready;
      all_set = λ o l. ⊎_elim (λ (y : Sets o c.instructions). y) (λ (y : false ≡ true). never y) (f.all_set o l);
    }

-- what acceptance means, whatever the bytes
pub accepted_means : (file : List ℕ) (c : Code) → check_of file ≡ gives c → WellFormed c.program c.instructions
accepted_means file c e = sound-formed c.program c.instructions (accepted-sound file c e)

-- a file is accepted, and read as c, exactly when c is well formed and the file is its encoding
pub accepted_iff : (file : List ℕ) (c : Code) → ((k : ℕ) → get_or file k 0 < 256) →
    (check_of file ≡ gives c) ↔ (WellFormed c.program c.instructions × (file ≡ program_file c.program c.instructions))
accepted_iff file c byte = (
  (λ e. (accepted_means file c e, accepted-is file c byte e)),
  (λ m. rw m.1 (accepted c.program c.instructions (formed-sound c.program c.instructions m.0))),
)
