-- The strings of n bits, each exactly once, and how many of them pass a test. Assumes nothing.
use Prim.Native.Nat.{ℕ, zero, suc, ◌+◌, ◌*◌, ◌^◌, ◌≤◌, ◌<◌}
use Rattle.std.specs.Prelude.{◌≡◌, Bool, not, length, get_or}
use Rattle.std.proofs.Math.Path.{refl, sym, ap, ap₂, fun_ext}
use Rattle.std.proofs.Common.{◌∙◌, length-append}
use Rattle.std.proofs.Math.Bool.{true, false}
use mathlib.Core.List.{List, [], ◌∷◌, ◌++◌, map}
use Rattle.std.proofs.Math.Nat.{mul-one, pow-succ'}
use native.Mathlib.Omega.{arith}
use Rattle.std.proofs.lemmas.List.{length-map}
use Rattle.laws.specs.Tests.{same}
use Rattle.laws.specs.Sums.{sum_to}
use Rattle.laws.specs.Lists.{Each, each_append, each_map, each_more, blocks, upto}

-- s is a string of n bits
pub record Bits (n : ℕ) (s : List ℕ) : Type 0 where
  pub long : length s ≡ n
  pub each : (i : ℕ) → i < n → get_or s i 0 ≤ 1

-- all of them: those that begin with 0, then those that begin with 1
unfoldable pub strings : ℕ → List (List ℕ)
strings zero = [] ∷ []
strings (suc n) = map (λ s. 0 ∷ s) (strings n) ++ map (λ s. 1 ∷ s) (strings n)

-- the sum of g over a list
unfoldable pub over : {A : Type 0} → List A → (A → ℕ) → ℕ
over [] g = 0
over (x ∷ xs) g = g x + over xs g

abbrev pub one_if : Bool → ℕ
one_if true = 1
one_if false = 0

-- how many of a list pass the test
unfoldable pub count : {A : Type 0} → (A → Bool) → List A → ℕ
count test xs = over xs (λ x. one_if (test x))

-- ---- sums over lists
module _ {A : Type 0} where
  pub over-append : (g : A → ℕ) (xs ys : List A) → over (xs ++ ys) g ≡ over xs g + over ys g
  unfolding over
  over-append g [] ys = omega arith
  over-append g (x ∷ xs) ys = omega (arith, over-append g xs ys)

  pub over-map : {B : Type 0} (f : A → B) (g : B → ℕ) (xs : List A) → over (map f xs) g ≡ over xs (λ x. g (f x))
  unfolding over
  over-map f g [] = refl
  over-map f g (x ∷ xs) = ap (λ (n : ℕ). g (f x) + n) (over-map f g xs)

  pub over-upto : (n : ℕ) (f : ℕ → A) (g : A → ℕ) → over (upto n f) g ≡ sum_to n (λ i. g (f i))
  unfolding upto blocks over sum_to
  over-upto zero f g = refl
  over-upto (suc n) f g = over-append g (blocks n (λ i. f i ∷ [])) (f n ∷ []) ∙ omega (arith, over-upto n f g)

  pub over-same : (k : ℕ) (xs : List A) → over xs (λ x. k) ≡ length xs * k
  unfolding over
  over-same k [] = omega arith
  over-same k (x ∷ xs) = omega (arith, over-same k xs)

  pub over_none : (xs : List A) → over xs (λ x. 0) ≡ 0
  over_none xs = over-same 0 xs ∙ omega arith

  pub over-eq : (f g : A → ℕ) (xs : List A) → Each (λ x. f x ≡ g x) xs → over xs f ≡ over xs g
  unfolding over
  over-eq f g [] e = refl
  over-eq f g (x ∷ xs) e = ap₂ ◌+◌ e.0 (over-eq f g xs e.1)

  -- tests that agree where P holds, which it does throughout
  pub count-each : (P : A → Type 0) (f g : A → Bool) (xs : List A) → Each P xs → ((x : A) → P x → f x ≡ g x) → count f xs ≡ count g xs
  unfolding count
  count-each P f g xs e same =
      over-eq (λ x. one_if (f x)) (λ x. one_if (g x)) xs
      (each_more P (λ x. one_if (f x) ≡ one_if (g x)) xs (λ x p. ap one_if (same x p)) e)

  -- terms that are equal throughout
  pub over-all : (f g : A → ℕ) (xs : List A) → ((x : A) → f x ≡ g x) → over xs f ≡ over xs g
  over-all f g xs e = ap (over xs) (fun_ext e)

  pub over_plus : (f g : A → ℕ) (xs : List A) → over xs (λ x. f x + g x) ≡ over xs f + over xs g
  unfolding over
  over_plus f g [] = refl
  over_plus f g (x ∷ xs) = omega (arith, over_plus f g xs)

  pub over-times : (k : ℕ) (g : A → ℕ) (xs : List A) → over xs (λ x. k * g x) ≡ k * over xs g
  unfolding over
  over-times k g [] = omega arith
  over-times k g (x ∷ xs) = omega (arith, over-times k g xs)

  -- those that pass a test, and those that do not
  pub count-both : (t : A → Bool) (xs : List A) → count t xs + count (λ x. not (t x)) xs ≡ length xs
  unfolding count
  count-both t xs =
      sym (over_plus (λ x. one_if (t x)) (λ x. one_if (not (t x))) xs) ∙
      (over-all (λ x. one_if (t x) + one_if (not (t x))) (λ x. 1) xs (λ x. either (t x)) ∙ (over-same 1 xs ∙ mul-one (length xs)))
    where
      either : (b : Bool) → one_if b + one_if (not b) ≡ 1
      either true = refl
      either false = refl

-- a sum over the strings splits by the first bit
pub over-strings : (n : ℕ) (g : List ℕ → ℕ) →
    over (strings (suc n)) g ≡ over (strings n) (λ s. g (0 ∷ s)) + over (strings n) (λ s. g (1 ∷ s))
unfolding strings
over-strings n g =
    over-append g (map (λ s. 0 ∷ s) (strings n)) (map (λ s. 1 ∷ s) (strings n)) ∙
    ap₂ ◌+◌ (over-map (λ s. 0 ∷ s) g (strings n)) (over-map (λ s. 1 ∷ s) g (strings n))

-- ---- `strings n` is what it says
pub strings-many : (n : ℕ) → length (strings n) ≡ 2 ^ n
unfolding strings
strings-many zero = refl
strings-many (suc n) =
    length-append (map (λ s. 0 ∷ s) (strings n)) (map (λ s. 1 ∷ s) (strings n)) ∙
    rw (pow-succ' 2 n) (omega (arith, length-map (strings n) (λ s. 0 ∷ s), length-map (strings n) (λ s. 1 ∷ s), strings-many n))

pub bits_none : Bits 0 []
bits_none = record { long = refl; each = λ i l. absurd (omega arith) }

pub bits_more : (x n : ℕ) (s : List ℕ) → x ≤ 1 → Bits n s → Bits (suc n) (x ∷ s)
bits_more x n s h b = record { long = ap suc b.long; each = at }
  where
    at : (i : ℕ) → i < suc n → get_or (x ∷ s) i 0 ≤ 1
    at zero l = h
    at (suc i) l = b.each i (omega arith)

pub bits-rest : (x n : ℕ) (s : List ℕ) → Bits (suc n) (x ∷ s) → Bits n s
bits-rest x n s b = record { long = omega (arith, b.long); each = λ i l. b.each (suc i) (omega arith) }

-- each is a string of n bits
pub strings-bits : (n : ℕ) → Each (Bits n) (strings n)
unfolding strings
strings-bits zero = (bits_none, tt)
strings-bits (suc n) =
    each_append (Bits (suc n)) (map (λ s. 0 ∷ s) (strings n)) (map (λ s. 1 ∷ s) (strings n))
    (each_map (Bits n) (Bits (suc n)) (λ s. 0 ∷ s) (strings n) (λ s b. bits_more 0 n s (omega arith) b) (strings-bits n))
    (each_map (Bits n) (Bits (suc n)) (λ s. 1 ∷ s) (strings n) (λ s b. bits_more 1 n s (omega arith) b) (strings-bits n))

-- each string of n bits is there, and there once
pub strings_once : (n : ℕ) (s : List ℕ) → Bits n s → count (same s) (strings n) ≡ 1
unfolding count same strings over
strings_once zero [] b = refl
strings_once zero (x ∷ s) b = absurd (omega (arith, b.long))
strings_once (suc n) [] b = absurd (omega (arith, b.long))
strings_once (suc n) (zero ∷ s) b =
    over-strings n (λ t. one_if (same (0 ∷ s) t)) ∙ omega (arith, over-same 0 (strings n), strings_once n s (bits-rest 0 n s b))
strings_once (suc n) (suc zero ∷ s) b =
    over-strings n (λ t. one_if (same (1 ∷ s) t)) ∙ omega (arith, over-same 0 (strings n), strings_once n s (bits-rest 1 n s b))
strings_once (suc n) (suc (suc x) ∷ s) b = absurd (omega (arith, b.each 0 (omega arith)))

-- what agrees on the strings of n bits has one sum over them, and tests that agree pass as many
pub over-bits : (n : ℕ) (f g : List ℕ → ℕ) → ((s : List ℕ) → Bits n s → f s ≡ g s) → over (strings n) f ≡ over (strings n) g
over-bits n f g e = over-eq f g (strings n) (each_more (Bits n) (λ s. f s ≡ g s) (strings n) e (strings-bits n))

pub count-eq : (n : ℕ) (f g : List ℕ → Bool) → ((s : List ℕ) → Bits n s → f s ≡ g s) → count f (strings n) ≡ count g (strings n)
count-eq n f g e = count-each (Bits n) f g (strings n) (strings-bits n) e
