-- What an operation comes to: one refusal by its number in 01's table or in 02, or a result. Checks are tried in the order in which they
-- stand.
-- Assumes nothing.
use Rattle.std.specs.Prelude.{ℕ, ◌≡◌, refl, Bool, true, false, ◌||◌, List, []}
use Rattle.std.proofs.Common.{sym, ap, arith}
use Rattle.laws.specs.Lay.{lay, lay-nothing}

pub data Outcome (A : Type 0) : Type 0 where
  refused : ℕ → Outcome A
  gives : A → Outcome A

-- refusal n where the test passes
abbrev pub refuse : ℕ → Bool → Outcome (Unit {0})
refuse n true = refused n
refuse n false = gives tt

infixl 20 ◌>>=◌
infixl 20 ◌>>◌
-- what a `do` block of checks means: the first refusal, or the last line's result
abbrev pub ◌>>=◌ : {A B : Type 0} → Outcome A → (A → Outcome B) → Outcome B
◌>>=◌ (refused n) k = refused n
◌>>=◌ (gives a) k = k a

abbrev pub ◌>>◌ : {A : Type 0} → Outcome (Unit {0}) → Outcome A → Outcome A
◌>>◌ (refused n) k = refused n
◌>>◌ (gives u) k = k

-- a part of the result, as the answer has it
abbrev pub mapped : {A B : Type 0} → (A → B) → Outcome A → Outcome B
mapped f (refused n) = refused n
mapped f (gives a) = gives (f a)

-- what the result lays into a lent buffer; a refusal lays nothing
abbrev pub laid : {A B : Type 0} → (A → List B) → Outcome A → List B
laid f (refused n) = []
laid f (gives a) = f a

-- ---- what a result says of the checks before it
pub gives_inj : {A : Type 0} {a b : A} → gives a ≡ gives b → a ≡ b
gives_inj e = cc

pub refused_inj : {A : Type 0} {i j : ℕ} → ◌≡◌ {A = Outcome A} (refused i) (refused j) → i ≡ j
refused_inj e = cc

-- a refusal is no result
pub no_result : {A B : Type 0} (n : ℕ) (a : A) → refused n ≡ gives a → B
no_result n a e = absurd (let z : ◌≡◌ {A = ℕ} 0 1 = cc in omega arith)

pub passed : {A : Type 0} (n : ℕ) (test : Bool) (rest : Outcome A) (a : A) → (refuse n test >> rest) ≡ gives a →
    (test ≡ false) × (rest ≡ gives a)
passed n true rest a e = no_result n a e
passed n false rest a e = (refl, e)

pub bound : {A B : Type 0} (o : Outcome A) (k : A → Outcome B) (b : B) → (o >>= k) ≡ gives b → (a : A) × (o ≡ gives a) × (k a ≡ gives b)
bound (refused n) k b e = no_result n b e
bound (gives a) k b e = (a, refl, e)

pub refuse-gives : (n : ℕ) (test : Bool) (u : Unit {0}) → refuse n test ≡ gives u → test ≡ false
refuse-gives n true u e = no_result n u e
refuse-gives n false u e = refl

pub then-gives : {A : Type 0} (o : Outcome (Unit {0})) (rest : Outcome A) (a : A) → (o >> rest) ≡ gives a →
    (o ≡ gives tt) × (rest ≡ gives a)
then-gives (refused n) rest a e = no_result n a e
then-gives (gives u) rest a e = (refl, e)

pub mapped-gives : {A B : Type 0} (f : A → B) (o : Outcome A) (b : B) → gives b ≡ mapped f o → (a : A) × (o ≡ gives a) × (f a ≡ b)
mapped-gives f (refused n) b e = no_result n b (sym e)
mapped-gives f (gives a) b e = (a, refl, (cc))

pub mapped-refused : {A B : Type 0} (f : A → B) (o : Outcome A) (n : ℕ) → refused n ≡ mapped f o → o ≡ refused n
mapped-refused f (refused k) n e = ap refused (cc)
mapped-refused f (gives a) n e = no_result n (f a) e

-- ---- the two ways in which an operation ends: its answer, and what its buffer holds
pub ends-refused : {A B C : Type 0} (f : A → B) (g : A → List C) (n : ℕ) (o : Outcome A) (buf : List C) → o ≡ refused n →
    (refused n ≡ mapped f o) × (buf ≡ lay (laid g o) buf)
ends-refused f g n o buf e = rw e (refl, lay-nothing buf)

pub ends-given : {A B C : Type 0} (f : A → B) (g : A → List C) (a : A) (b : B) (o : Outcome A) (buf buf' : List C) → o ≡ gives a → b ≡ f a →
    buf' ≡ lay (g a) buf → (gives b ≡ mapped f o) × (buf' ≡ lay (laid g o) buf)
ends-given f g a b o buf buf' e q l = rw e (ap gives q, l)

-- ---- checks one after another
-- two checks with one refusal are one
pub refuse-either : {A : Type 0} (n : ℕ) (a b : Bool) (rest : Outcome A) →
    (refuse n a >> (refuse n b >> rest)) ≡ (refuse n (a || b) >> rest)
refuse-either n true b rest = refl
refuse-either n false b rest = refl

module _ {A B : Type 0} where
  pub bind_eq : (o : Outcome A) (k h : A → Outcome B) → ((a : A) → o ≡ gives a → k a ≡ h a) → (o >>= k) ≡ (o >>= h)
  bind_eq (refused n) k h e = refl
  bind_eq (gives a) k h e = e a refl

  pub bind_is : (o : Outcome A) (f : A → B) → (o >>= (λ a. gives (f a))) ≡ mapped f o
  bind_is (refused n) f = refl
  bind_is (gives a) f = refl

  pub bind_after : {C : Type 0} (o : Outcome A) (k : A → Outcome B) (h : B → Outcome C) (l : A → Outcome C) →
      ((a : A) → l a ≡ (k a >>= h)) → (o >>= l) ≡ ((o >>= k) >>= h)
  bind_after (refused n) k h l e = refl
  bind_after (gives a) k h l e = e a

  pub then-after : (u : Outcome (Unit {0})) (k : Outcome A) (h : A → Outcome B) (l : Outcome B) → l ≡ (k >>= h) →
      (u >> l) ≡ ((u >> k) >>= h)
  then-after (refused n) k h l e = refl
  then-after (gives a) k h l e = e

  pub mapped_bind : {C : Type 0} (o : Outcome A) (k : A → Outcome B) (h : A → Outcome C) (f : C → B) → ((a : A) → k a ≡ mapped f (h a)) →
      (o >>= k) ≡ mapped f (o >>= h)
  mapped_bind (refused n) k h f e = refl
  mapped_bind (gives a) k h f e = e a

  pub mapped-then : (u : Outcome (Unit {0})) (k : Outcome B) (h : Outcome A) (f : A → B) → k ≡ mapped f h → (u >> k) ≡ mapped f (u >> h)
  mapped-then (refused n) k h f e = refl
  mapped-then (gives a) k h f e = e

  pub mapped-mapped : {C : Type 0} (f : A → B) (g : B → C) (h : A → C) (o : Outcome A) → ((a : A) → g (f a) ≡ h a) →
      mapped g (mapped f o) ≡ mapped h o
  mapped-mapped f g h (refused n) e = refl
  mapped-mapped f g h (gives a) e = ap gives (e a)

  pub laid-mapped : (f : A → List B) (o : Outcome A) → laid (λ xs. xs) (mapped f o) ≡ laid f o
  laid-mapped f (refused n) = refl
  laid-mapped f (gives a) = refl

pub bind_gives : {A : Type 0} (o : Outcome A) → (o >>= (λ a. gives a)) ≡ o
bind_gives (refused n) = refl
bind_gives (gives a) = refl

pub mapped_id : {A : Type 0} (o : Outcome A) → mapped (λ a. a) o ≡ o
mapped_id (refused n) = refl
mapped_id (gives a) = refl

module _ {A B : Type 0} where
  -- two outcomes whose results come of one result are equal where these are
  pub mapped-same : (f g : A → B) (o : Outcome A) → ((a : A) → o ≡ gives a → f a ≡ g a) → mapped f o ≡ mapped g o
  mapped-same f g (refused n) e = refl
  mapped-same f g (gives a) e = ap gives (e a refl)

  -- what goes on from a result of f to one of g
  pub bind_mapped : {C : Type 0} (f : A → B) (g : A → C) (k : B → Outcome C) (o : Outcome A) →
      ((a : A) → o ≡ gives a → k (f a) ≡ gives (g a)) → (mapped f o >>= k) ≡ mapped g o
  bind_mapped f g k (refused n) e = refl
  bind_mapped f g k (gives a) e = e a refl
