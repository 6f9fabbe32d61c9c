-- Code that writes a program part by part: what it has written, and how one part follows another. Assumes nothing.
use Prim.Native.Nat.{ℕ, zero, suc, ◌+◌, ◌*◌, ◌-◌, ◌≤◌, ◌<◌}
use Rattle.std.specs.Prelude.{◌≡◌, refl, List, [], ◌∷◌, ◌++◌, length}
use Rattle.std.proofs.Common.{sym, ap, ◌∙◌, append_assoc, append-nil, ⊎_elim, eq-or-lt_of_le, le_of_suc-le-suc, length-append}
use native.Mathlib.Omega.{arith}
use Rattle.laws.specs.Tests.{reached}
use Rattle.laws.specs.Lists.{blocks, blocks_more}
use Rattle.laws.specs.Lay.{lay_at, length-lay_at, Laid, laid_none, laid-after}
use Rattle.laws.specs.Outcome.{laid}
use Rattle.programs.specs.Limits.{most_registers, most_outputs}
use Rattle.programs.specs.Instructions.{length_of, instruction_bytes, encode_of}
use Rattle.programs.specs.Reading.{length_instruction, encode_gives}
use Rattle.programs.specs.Header.{code_bytes}
use Rattle.programs.specs.declared.description.Instruction.{Instruction}
use Rattle.compiler.specs.Translation.{if_set}
use Rattle.compiler.specs.Size.{size, size-append}

-- the registers and outputs of k bits and m rows are within a program's limits
pub record Fit (k m : ℕ) : Type 0 where
  pub registers : 3 + k + 3 * m ≤ most_registers
  pub outputs : 1 + k ≤ most_outputs

-- there is room for `is` from byte `at` on. Records, so that their parameters are found from the goal.
pub record Space (at : ℕ) (is : List Instruction) (buf : List ℕ) : Type 0 where
  pub fits : at + size is ≤ length buf

-- `is` stand from byte `at` on, and end before byte `next`
pub record Emitted (at : ℕ) (is : List Instruction) (buf now : List ℕ) (next : ℕ) : Type 0 where
  pub laid : Laid at (code_bytes is) buf now
  pub room : next ≤ length buf
  pub behind : next ≡ at + size is

-- a loop over n parts: all have room, and the first i of them stand
pub record Parts (f : ℕ → List Instruction) (n at : ℕ) (buf : List ℕ) (i : ℕ) (now : List ℕ) (to : ℕ) : Type 0 where
  pub few : i ≤ n
  pub space : Space at (blocks n f) buf
  pub so_far : Emitted at (blocks i f) buf now to

-- ---- bytes
code-append : (is js : List Instruction) → code_bytes (is ++ js) ≡ code_bytes is ++ code_bytes js
unfolding code_bytes
code-append [] js = refl
code-append (i ∷ is) js = rw (code-append is js) (sym (append_assoc (instruction_bytes i) (code_bytes is) (code_bytes js)))

pub length-code : (is : List Instruction) → length (code_bytes is) ≡ size is
unfolding code_bytes
length-code [] = refl
length-code (i ∷ is) = rw (length-append (instruction_bytes i) (code_bytes is)) (omega (arith, length_instruction i, length-code is))

-- the first i parts and the next one are within the whole
size_part : (f : ℕ → List Instruction) (n i : ℕ) → i < n → size (blocks i f) + size (f i) ≤ size (blocks n f)
unfolding blocks
size_part f zero i h = absurd (omega arith)
size_part f (suc n) i h =
    ⊎_elim
    (λ (q : i ≡ n). rw q (omega (arith, size-append (blocks n f) (f n))))
    (λ (q : i < n). omega (arith, size-append (blocks n f) (f n), size_part f n i q))
    (eq-or-lt_of_le (le_of_suc-le-suc h))

-- ---- nothing, one instruction, one part after another
pub emitted_none : {at : ℕ} {is : List Instruction} {buf : List ℕ} → Space at is buf → Emitted at [] buf buf at
unfolding code_bytes
emitted_none {at} {is} {buf} h = record { laid = laid_none at buf; room = omega (arith, h.fits); behind = omega arith }

-- as the encoder answers
pub emitted_one : {at : ℕ} {i : Instruction} {long : ℕ} {buf now : List ℕ} → long ≡ length_of i → Space at (i ∷ []) buf →
    now ≡ lay_at at (laid (λ bytes. bytes) (encode_of i at (length buf))) buf → Emitted at (i ∷ []) buf now (at + long)
unfolding code_bytes
emitted_one {at} {i} {long} {buf} {now} k h e =
    let fits : at + length_of i ≤ length buf = omega (arith, h.fits) in
    let q : now ≡ lay_at at (instruction_bytes i) buf = rw (encode_gives i at (length buf) fits) at e in
    record {
      laid =
          rw (append-nil (instruction_bytes i)) (
          record { long = ap length q ∙ length-lay_at at (instruction_bytes i) buf (omega (arith, length_instruction i)); is = q }
          );
      room = omega arith;
      behind = omega arith;
    }

pub emitted_after : {at mid next : ℕ} {is js : List Instruction} {buf now now' : List ℕ} →
    Emitted at is buf now mid → Emitted mid js now now' next → Emitted at (is ++ js) buf now' next
emitted_after {at} {mid} {next} {is} {js} {buf} {now} {now'} a b =
    let e : mid ≡ at + length (code_bytes is) = omega (arith, length-code is, a.behind) in
    let l : mid + length (code_bytes js) ≤ length buf = omega (arith, length-code js, b.behind, b.room, a.laid.long) in
    record {
      laid = rw (code-append is js) (laid-after at mid (code_bytes is) (code_bytes js) buf now now' e l b.laid.is a.laid);
      room = omega (arith, b.room, a.laid.long);
      behind = omega (arith, a.behind, b.behind, size-append is js);
    }

-- ---- room for a part, and behind it for the next
module _ {at : ℕ} (is js : List Instruction) {buf : List ℕ} (s : Space at (is ++ js) buf) where
  pub space-first : Space at is buf
  space-first = record { fits = omega (arith, s.fits, size-append is js) }

  pub space-next : {mid : ℕ} {now : List ℕ} → Emitted at is buf now mid → Space mid js now
  space-next a = record { fits = omega (arith, s.fits, size-append is js, a.behind, a.laid.long) }

-- ---- what is there for a set bit
module _ (b : ℕ) (is : List Instruction) where
  pub if_none : {at : ℕ} {buf : List ℕ} → b ≡ 0 → Space at (if_set b is) buf → Emitted at (if_set b is) buf buf at
  unfolding if_set
  if_none e h = rw e (emitted_none h)

  if_is : (b ≡ 0 → ⊥) → is ≡ if_set b is
  unfolding if_set
  if_is n =
      let e : b ≡ suc (b - 1) = omega arith in
      rw e

  pub if_space : {at : ℕ} {buf : List ℕ} → (b ≡ 0 → ⊥) → Space at (if_set b is) buf → Space at is buf
  if_space n h = rw (if_is n) h

  pub if_emitted : {at next : ℕ} {buf now : List ℕ} → (b ≡ 0 → ⊥) → Emitted at is buf now next → Emitted at (if_set b is) buf now next
  if_emitted n a = rw (if_is n) at a

-- ---- a loop over parts: its beginning, its turns and its end
pub parts_none : {f : ℕ → List Instruction} {n at : ℕ} {buf : List ℕ} → Space at (blocks n f) buf → Parts f n at buf 0 buf at
unfolding blocks
parts_none h = record { few = omega arith; space = h; so_far = emitted_none h }

module _ {f : ℕ → List Instruction} {n at i to : ℕ} {buf now : List ℕ} (p : Parts f n at buf i now to) where
  -- the next part has room
  pub parts-space : i < n → Space to (f i) now
  parts-space h = record { fits = omega (arith, size_part f n i h, p.space.fits, p.so_far.behind, p.so_far.laid.long) }

  pub parts_more : {now' : List ℕ} {next : ℕ} → i < n → Emitted to (f i) now now' next → Parts f n at buf (i + 1) now' next
  parts_more h b = record { few = omega arith; space = p.space; so_far = rw (blocks_more i f) (emitted_after p.so_far b) }

  pub parts-done : n ≤ i → Emitted at (blocks n f) buf now to
  parts-done h = reached (λ x. Emitted at (blocks x f) buf now to) i n p.few h p.so_far
