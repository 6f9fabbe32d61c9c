-- What a program must be to be accepted, as a judgment on its instructions, with laws for lists of them: the checker's tests from the other
-- side. Assumes nothing.
use Rattle.std.specs.Prelude.{ℕ, zero, suc, ◌<◌, ◌≡◌, refl, Bool, true, false, ◌||◌, List, [], ◌∷◌, ◌++◌, ◌⊎◌, eqb, length}
use Rattle.std.proofs.Common.{sym, inl, inr, arith, eq-eqb, eqb-true}
use Rattle.std.proofs.Math.Bool.{or-true}
use Rattle.std.proofs.Math.Logic.{⊎_map}
use Rattle.laws.specs.Every.{OneOf}
use Rattle.laws.specs.Lists.{blocks, Each, each_more}
use Rattle.programs.specs.Limits.{within}
use Rattle.programs.specs.Instructions.{uses}
use Rattle.programs.specs.declared.description.Program.{Program}
use Rattle.programs.specs.declared.description.Instruction.{Instruction}
use Rattle.checker.specs.Checks.{also}
use Rattle.checker.specs.Standing.{InRange}

-- ---- the judgment
-- each operand is below its count
abbrev pub Fits : Program → Instruction → Type 0
Fits p i = InRange p.registers p.inputs p.outputs i

-- where the registers of W are written before, each instruction reads only what is written, and those of U are written after
abbrev pub Ready : (ℕ → Type 0) → List Instruction → (ℕ → Type 0) → Type 0
Ready W [] U = (r : ℕ) → U r → W r
Ready W (i ∷ is) U = Each W (uses i).reads × Ready (λ r. OneOf (uses i).writes r ⊎ W r) is U

-- some instruction sets output o
abbrev pub Sets : ℕ → List Instruction → Type 0
Sets o [] = ⊥
Sets o (i ∷ is) = OneOf (uses i).sets o ⊎ Sets o is

-- no register
abbrev pub Nowhere : ℕ → Type 0
Nowhere r = ⊥

-- what the checker asks of a header and the instructions behind it
pub record Sound (p : Program) (is : List Instruction) : Type 0 where
  pub limits : within p ≡ true
  pub counted : p.count ≡ length is
  pub in_range : Each (Fits p) is
  pub written : Ready Nowhere is Nowhere
  pub all_set : (o : ℕ) → o < p.outputs → Sets o is

-- ---- laws for lists of instructions
-- with more written before
pub ready_more : (is : List Instruction) (W Z U : ℕ → Type 0) → ((r : ℕ) → W r → Z r) → Ready W is U → Ready Z is U
ready_more [] W Z U f e = λ r u. f r (e r u)
ready_more (i ∷ is) W Z U f e = (
  each_more W Z (uses i).reads f e.0,
  ready_more is (λ r. OneOf (uses i).writes r ⊎ W r) (λ r. OneOf (uses i).writes r ⊎ Z r) U
      (λ r x. ⊎_map (λ y. y) (f r) x) e.1,
)

-- with less asked for after
pub ready-less : (is : List Instruction) (W U Z : ℕ → Type 0) → ((r : ℕ) → Z r → U r) → Ready W is U → Ready W is Z
ready-less [] W U Z f e = λ r z. e r (f r z)
ready-less (i ∷ is) W U Z f e = (e.0, ready-less is (λ r. OneOf (uses i).writes r ⊎ W r) U Z f e.1)

pub ready-append : (is js : List Instruction) (W U Z : ℕ → Type 0) → Ready W is U → Ready U js Z → Ready W (is ++ js) Z
ready-append [] js W U Z e d = ready_more js U W Z e d
ready-append (i ∷ is) js W U Z e d = (e.0, ready-append is js (λ r. OneOf (uses i).writes r ⊎ W r) U Z e.1 d)

pub ready-blocks : (I : ℕ → ℕ → Type 0) (f : ℕ → List Instruction) (n : ℕ) → ((i : ℕ) → i < n → Ready (I i) (f i) (I (suc i))) →
    Ready (I 0) (blocks n f) (I n)
unfolding blocks
ready-blocks I f zero g = λ r x. x
ready-blocks I f (suc n) g =
    ready-append (blocks n f) (f n) (I 0) (I n) (I (suc n)) (ready-blocks I f n (λ i l. g i (omega arith))) (g n (omega arith))

-- what is written stays written
pub ready_stay : (W : ℕ → Type 0) (is : List Instruction) → Each (λ i. Each W (uses i).reads) is → Ready W is W
ready_stay W [] e = λ r x. x
ready_stay W (i ∷ is) e = (e.0, ready_more is W (λ r. OneOf (uses i).writes r ⊎ W r) W (λ r x. inr x) (ready_stay W is e.1))

pub sets-left : (o : ℕ) (is js : List Instruction) → Sets o is → Sets o (is ++ js)
sets-left o [] js x = absurd x
sets-left o (i ∷ is) js (inl x) = inl x
sets-left o (i ∷ is) js (inr x) = inr (sets-left o is js x)

pub sets-right : (o : ℕ) (is js : List Instruction) → Sets o js → Sets o (is ++ js)
sets-right o [] js x = x
sets-right o (i ∷ is) js x = inr (sets-right o is js x)

-- ---- the checker's tests
-- a list adds its numbers to a test, and nothing else
pub also-holds : (t : ℕ → Bool) (xs : List ℕ) (r : ℕ) → OneOf xs r ⊎ (t r ≡ true) → also t xs r ≡ true
unfolding also
also-holds t [] r (inl e) = absurd e
also-holds t [] r (inr e) = e
also-holds t (x ∷ xs) r (inl (inl e)) = rw (eq-eqb x r (sym e))
also-holds t (x ∷ xs) r (inl (inr e)) = rw (also-holds t xs r (inl e), or-true)
also-holds t (x ∷ xs) r (inr e) = rw (also-holds t xs r (inr e), or-true)

pub also-says : (t : ℕ → Bool) (xs : List ℕ) (r : ℕ) → also t xs r ≡ true → OneOf xs r ⊎ (t r ≡ true)
unfolding also
also-says t [] r e = inr e
also-says t (x ∷ xs) r e = first (eqb x r) refl (λ q. also-says t xs r q) e
  where
    first : (b : Bool) → eqb x r ≡ b → (also t xs r ≡ true → OneOf xs r ⊎ (t r ≡ true)) → (b || also t xs r) ≡ true →
        OneOf (x ∷ xs) r ⊎ (t r ≡ true)
    first true q later e = inl (inl (sym (eqb-true x r q)))
    first false q later e = ⊎_map (λ y. inr y) (λ y. y) (later e)
