-- One instruction of a check: its operands, the marks that it leaves, and what its admission says. Assumes nothing.
use Rattle.std.specs.Prelude.{ℕ, ◌+◌, ◌≤◌, ◌<◌, ◌≡◌, refl, Bool, true, false, not, ◌&&◌, ◌||◌, List, [], ◌∷◌, ltb, eqb, length, get_or, set}
use Rattle.std.specs.Prelude.{drop}
use Rattle.std.proofs.Common.{sym, ap, ◌∙◌, arith, eq-eqb, ne_eqb, length-set, get_or-set_same, get_or-set_other}
use Rattle.std.proofs.Math.Path.{fun_ext}
use Rattle.std.proofs.Math.Bool.{and-true, and_assoc}
use Rattle.std.proofs.Math.Decide.{ℕ_discrete}
use Rattle.std.proofs.lemmas.Bool.{not-false}
use Rattle.laws.specs.Every.{every, every-below}
use Rattle.laws.specs.Tests.{both}
use Rattle.laws.specs.Lists.{Each, each_more}
use Rattle.laws.specs.Outcome.{gives, passed, bound, gives_inj}
use Rattle.programs.specs.Limits.{most_registers, most_inputs, most_outputs, within}
use Rattle.programs.specs.Instructions.{uses, length_of, decode_of}
use Rattle.programs.specs.Reading.{within_means}
use Rattle.programs.specs.declared.description.Program.{Program}
use Rattle.programs.specs.declared.description.Instruction.{Instruction}
use Rattle.programs.specs.declared.description.Instruction.TheVariants.{Ones, Zero, Input, Not, And, Or, Output}
use Rattle.checker.specs.Checks.{also, in_range, instruction_of}
use Rattle.checker.specs.Standing.{InRange, reads-stands}

-- what flags say
abbrev pub flagged : List Bool → ℕ → Bool
flagged flags r = get_or flags r false

-- ---- operands: the test, and what it says
module _ (p : Program) (i : Instruction) where
  pub range_means : in_range p i ≡ true → InRange p.registers p.inputs p.outputs i
  range_means e =
      let wrti = both _ _ e in
      let wrt = both _ _ wrti.0 in
      let wr = both _ _ wrt.0 in (
        (every-below p.registers (uses i).writes).0 wr.0,
        (every-below p.registers (uses i).reads).0 wr.1,
        (every-below p.inputs (uses i).takes).0 wrt.1,
        (every-below p.outputs (uses i).sets).0 wrti.1,
      )

  pub range-holds : InRange p.registers p.inputs p.outputs i → in_range p i ≡ true
  range-holds f =
      rw (
        (every-below p.registers (uses i).writes).1 f.0,
        (every-below p.registers (uses i).reads).1 f.1,
        (every-below p.inputs (uses i).takes).1 f.2,
        (every-below p.outputs (uses i).sets).1 f.3,
      )

-- the test as the code makes it, by the kind
abbrev pub tested : Program → Instruction → Bool
tested p (Ones to) = ltb to p.registers
tested p (Zero to) = ltb to p.registers
tested p (Input to n) = ltb to p.registers && ltb n p.inputs
tested p (Not to a) = ltb to p.registers && ltb a p.registers
tested p (And to a b) = ltb to p.registers && ltb a p.registers && ltb b p.registers
tested p (Or to a b) = ltb to p.registers && ltb a p.registers && ltb b p.registers
tested p (Output o a) = ltb a p.registers && ltb o p.outputs

pub range-tested : (p : Program) (i j : Instruction) → i ≡ j → tested p j ≡ in_range p i
range-tested p i (Ones to) e = rw e (simp and-true)
range-tested p i (Zero to) e = rw e (simp and-true)
range-tested p i (Input to n) e = rw e (simp and-true)
range-tested p i (Not to a) e = rw e (simp and-true)
range-tested p i (And to a b) e = rw e (simp (and-true, and_assoc))
range-tested p i (Or to a b) e = rw e (simp (and-true, and_assoc))
range-tested p i (Output o a) e = rw e (simp and-true)

-- with more registers, inputs and outputs
pub range_wider : (nr ni nq mr mi mq : ℕ) (i : Instruction) → nr ≤ mr → ni ≤ mi → nq ≤ mq → InRange nr ni nq i → InRange mr mi mq i
range_wider nr ni nq mr mi mq i a b c r = (
  each_more (λ x. x < nr) (λ x. x < mr) (uses i).writes (λ x l. omega arith) r.0,
  each_more (λ x. x < nr) (λ x. x < mr) (uses i).reads (λ x l. omega arith) r.1,
  each_more (λ x. x < ni) (λ x. x < mi) (uses i).takes (λ x l. omega arith) r.2,
  each_more (λ x. x < nq) (λ x. x < mq) (uses i).sets (λ x l. omega arith) r.3,
)

pub range-limits : (p : Program) (i : Instruction) → within p ≡ true → in_range p i ≡ true →
    InRange most_registers most_inputs most_outputs i
range-limits p i w e =
    let l = within_means p w in
    range_wider _ _ _ _ _ _ i l.few_registers l.few_inputs l.few_outputs (range_means p i e)

-- ---- marks
-- flags after those of a list were set
pub record Flags (xs : List ℕ) (w w' : List Bool) : Type 0 where
  pub now_flagged : flagged w' ≡ also (flagged w) xs
  pub long : length w' ≡ length w

pub flag_set : (w : List Bool) (to : ℕ) → to < length w → flagged (set w to true) ≡ also (flagged w) (to ∷ [])
unfolding also
flag_set w to h = fun_ext (λ r. by r (ℕ_discrete r to))
  where
    by : (r : ℕ) → Dec (r ≡ to) → get_or (set w to true) r false ≡ (eqb to r || get_or w r false)
    by r (yes e) = rw (e, get_or-set_same w to true false h, eq-eqb to to refl)
    by r (no n) = rw (get_or-set_other w to r true false n, ne_eqb to r (λ e. n (sym e)))

pub also-none : (t : ℕ → Bool) → t ≡ also t []
unfolding also
also-none t = fun_ext (λ r. refl)

-- a test of a list of one, and of two
pub every_one : (t : ℕ → Bool) (xs : List ℕ) (a : ℕ) → xs ≡ a ∷ [] → t a ≡ every t xs
every_one t xs a e = rw (e, and-true)

pub every_two : (t : ℕ → Bool) (xs : List ℕ) (a b : ℕ) → xs ≡ a ∷ b ∷ [] → (t a && t b) ≡ every t xs
every_two t xs a b e = rw (e, and-true)

-- where the list is of none, or of one below the number of flags
pub unmarked : (xs : List ℕ) (w : List Bool) → xs ≡ [] → Flags xs w w
unmarked xs w e = rw e (record { now_flagged = also-none (flagged w); long = refl })

pub marked : (xs : List ℕ) (n x : ℕ) (w : List Bool) → xs ≡ x ∷ [] → Each (λ r. r < n) xs × (length w ≡ n) → Flags xs w (set w x true)
marked xs n x w e r =
    let fits = rw e at r.0 in
    rw e (record { now_flagged = flag_set w x (rw r.1 fits.0); long = length-set w x true })

-- ---- one instruction
-- what an instruction that is admitted says, whatever is written
admitted : (p : Program) (written : ℕ → Bool) (bytes : List ℕ) (i : Instruction) → instruction_of p written bytes ≡ gives i →
    (decode_of bytes ≡ gives i) × (in_range p i ≡ true)
unfolding instruction_of
admitted p written bytes i e =
    let c1 = bound (decode_of bytes) _ i e in
    let c2 = passed 8 (not (in_range p c1.0)) _ i c1.2 in
    let c3 = passed 9 _ (gives c1.0) i c2.1 in
    let same : c1.0 ≡ i = gives_inj c3.1 in
    (c1.1 ∙ ap gives same, rw same at (not-false (in_range p c1.0) c2.0))

pub admit_limits : (p : Program) (written : ℕ → Bool) (bytes : List ℕ) (i : Instruction) → gives i ≡ instruction_of p written bytes →
    within p ≡ true → InRange most_registers most_inputs most_outputs i
admit_limits p written bytes i e w = range-limits p i w (admitted p written bytes i (sym e)).1

pub admit_room : (file : List ℕ) (at : ℕ) (p : Program) (written : ℕ → Bool) (i : Instruction) →
    gives i ≡ instruction_of p written (drop at file) → at + length_of i ≤ length file
admit_room file at p written i e = (reads-stands file at i (admitted p written (drop at file) i (sym e)).0).room
