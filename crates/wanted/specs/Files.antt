-- 02, order 7, of matrix files: the bytes that are laid down are the smallest string on which the walk hits the row, and there is none
-- exactly where the row is all zero. Assumes nothing.
use Prim.Native.Nat.{ℕ, ◌+◌, ◌≤◌, ◌<◌}
use Rattle.std.specs.Prelude.{◌≡◌, true, ◌↔◌, leb, ltb}
use Rattle.std.proofs.Math.Path.{refl, sym, ap}
use Rattle.std.proofs.Common.{◌∙◌, subst, arith}
use Rattle.std.proofs.Math.Bool.{false}
use mathlib.Core.List.{List}
use Rattle.std.proofs.Math.Option.{Option, none, some}
use borrow.Author.Tests.{lt-leb, leb-false, le-ltb, ltb-false, eqb-true}
use Rattle.std.proofs.Math.ListN.{length, get_or}
use Rattle.laws.specs.Tests.{never}
use Rattle.laws.specs.Digits.{digit}
use Rattle.laws.specs.Lists.{upto, get_d_upto}
use Rattle.laws.specs.Outcome.{Outcome, refused, gives, ◌>>◌, gives_inj, passed}
use Rattle.fields.specs.Fields.{width, bit_of, length-packed}
use Rattle.fields.specs.Strings.{strings_of}
use Rattle.files.specs.Matrix.{Matrix, p}
use Rattle.files.specs.Files.{matrix_of}
use Rattle.files.specs.RoundTrip.{read_accepted}
use Rattle.walk.specs.Walk.{Drawn, hit, miss, drawn, hits, is_row, sample, answer_of, used, spending_of, walk_under, walk_of}
use Rattle.walk.specs.Strings.{Bits}
use Rattle.walk.specs.Numbers.{number_string, read_number, number-bits, number_of_string}
use Rattle.walk.specs.Packed.{packed_string, packed_string-sound, packed_string-bits, read_bits}
use Rattle.walk.specs.Theorems.{gives_that, walk_is}
use Rattle.wanted.specs.Wanted.{number_for, packed_number, wanted_under, wanted_of, string_found}
use Rattle.wanted.specs.Theorems.{SmallestString, first_column, first-column, number_smallest, smallest_number, none_iff, never-hit}

-- ---- a hit of row v as the answer of a walk
pub hits-answer : (v : ℕ) (d : Drawn) → hits v d ≡ true → answer_of d ≡ sample v
unfolding hits
hits-answer v (hit u c) e = ap sample (eqb-true u v e)
hits-answer v miss e = never e

-- ---- what is laid down, and the number that it comes of
packed_none : (n : ℕ) (o : Option ℕ) → packed_number n o ≡ none → o ≡ none
packed_none n none e = refl
packed_none n (some x) e = never (ap string_found (sym e))

packed-some : (n : ℕ) (o : Option ℕ) (bytes : List ℕ) → packed_number n o ≡ some bytes →
    (x : ℕ) × (o ≡ some x) × (bytes ≡ packed_string n (number_string n x))
packed-some n none bytes e = never (ap string_found e)
packed-some n (some x) bytes e = (x, refl, (cc))

module _ (file : List ℕ) (M : Matrix) (e : matrix_of file ≡ gives M) (row room : ℕ) where
  -- an answer comes where the row is one of the matrix and the room is there, and only there
  answer_iff : (o : Option (List ℕ)) →
      (wanted_of file row room ≡ gives o) ↔
      ((row < M.rows) × (width M.columns ≤ room) × (packed_number M.columns (number_for M row) ≡ o))
  unfolding wanted_under
  answer_iff o = (
    (λ g.
        let r = passed 3 (leb M.rows row) _ o (rw e at g) in
        let s = passed 13 (ltb room (width M.columns)) _ o r.1 in
        (leb-false M.rows row r.0, ltb-false room (width M.columns) s.0, gives_inj s.1)),
    (λ h. rw (e, lt-leb M.rows row h.0, le-ltb room (width M.columns) h.1) (ap gives h.2)),
  )

  -- a string is given exactly where it is the smallest, packed
  pub string_iff : (bytes : List ℕ) →
      (wanted_of file row room ≡ gives (some bytes)) ↔
      ((row < M.rows) × (width M.columns ≤ room) ×
      ((s : List ℕ) × SmallestString M row s × (bytes ≡ packed_string M.columns s)))
  string_iff bytes = (
    (λ g.
        let a = (answer_iff (some bytes)).0 g in
        let q = packed-some M.columns (number_for M row) bytes a.2 in
        (a.0, a.1, (number_string M.columns q.0, number_smallest M row q.0 q.1, q.2))),
    (λ h.
        let s = h.2.0 in
        let least = h.2.1 in
        (answer_iff (some bytes)).1
        (h.0, h.1, rw (smallest_number M row s least, number_of_string M.columns s least.bits) (ap some (sym h.2.2)))),
  )

  -- none exactly where the row is all zero
  pub zero_iff : (wanted_of file row room ≡ gives none) ↔ ((row < M.rows) × (width M.columns ≤ room) × (p M row ≡ 0))
  zero_iff = (
    (λ g.
        let a = (answer_iff none).0 g in
        (a.0, a.1, (none_iff M (read_accepted file M e) row a.0).0 (packed_none M.columns (number_for M row) a.2))),
    (λ h. (answer_iff none).1 (h.0, h.1, ap (packed_number M.columns) ((none_iff M (read_accepted file M e) row h.0).1 h.2))),
  )

  -- so with every other row there is a string
  pub some-string : row < M.rows → width M.columns ≤ room → 0 < p M row →
      (bytes : List ℕ) × (wanted_of file row room ≡ gives (some bytes))
  some-string h l z = by (number_for M row) refl
    where
      by : (o : Option ℕ) → number_for M row ≡ o → (bytes : List ℕ) × (wanted_of file row room ≡ gives (some bytes))
      by none q = absurd (omega (arith, (none_iff M (read_accepted file M e) row h).0 q))
      by (some x) q =
          let bytes : List ℕ = packed_string M.columns (number_string M.columns x) in
          (bytes, (answer_iff (some bytes)).1 (h, l, ap (packed_number M.columns) q))

  -- bytes are not walked to the row where their bits are not, be they sound or refused
  not-walked : (string : List ℕ) → hits row (drawn M (upto M.columns (bit_of string 0))) ≡ false →
      gives_that (is_row row) (walk_of file string) ≡ false
  unfolding walk_under hits
  not-walked string h = rw e (by (strings_of 1 M.columns string))
    where
      by : (o : Outcome (Unit {0})) →
          gives_that (is_row row) (o >> gives (spending_of M.columns (drawn M (upto M.columns (bit_of string 0))))) ≡ false
      by (refused n) = refl
      by (gives u) = h

  -- and where the row is all zero, none at all is walked to it
  pub zero-never : row < M.rows → p M row ≡ 0 → (string : List ℕ) → gives_that (is_row row) (walk_of file string) ≡ false
  zero-never h z string =
      not-walked string
      (never-hit M (read_accepted file M e) row h z (upto M.columns (bit_of string 0)) (read_bits M.columns string))

  -- ---- the bytes of a string that is given
  module _ (bytes : List ℕ) (g : wanted_of file row room ≡ gives (some bytes)) where
    -- they are those of the number
    made_of : (row < M.rows) × ((x : ℕ) × (number_for M row ≡ some x) × (bytes ≡ packed_string M.columns (number_string M.columns x)))
    made_of =
        let a = (answer_iff (some bytes)).0 g in
        (a.0, packed-some M.columns (number_for M row) bytes a.2)

    abbrev string : List ℕ
    string = number_string M.columns made_of.1.0

    string-bits : Bits M.columns string
    string-bits = number-bits M.columns made_of.1.0

    -- as many as a row has
    pub laid-long : length bytes ≡ width M.columns
    unfolding packed_string
    laid-long = ap length made_of.1.2 ∙ length-packed M.columns (λ i. get_or string i 0)

    -- spare bits are 0: the walk takes the string
    pub laid-sound : strings_of 1 M.columns bytes ≡ gives tt
    laid-sound =
        let a = read_accepted file M e in
        ap (strings_of 1 M.columns) made_of.1.2 ∙
        packed_string-sound M.columns string string-bits a.some_columns a.few_columns

    -- their bits are the smallest string
    laid-bits : upto M.columns (bit_of bytes 0) ≡ string
    laid-bits =
        ap (λ (l : List ℕ). upto M.columns (bit_of l 0)) made_of.1.2 ∙ packed_string-bits M.columns string string-bits

    pub laid-packed : bytes ≡ packed_string M.columns (upto M.columns (bit_of bytes 0))
    laid-packed = made_of.1.2 ∙ ap (packed_string M.columns) (sym laid-bits)

    pub laid-least : SmallestString M row (upto M.columns (bit_of bytes 0))
    laid-least = subst (SmallestString M row) (sym laid-bits) (number_smallest M row made_of.1.0 made_of.1.1)

    -- the walk on it hits the row
    pub laid-draws : answer_of (drawn M (upto M.columns (bit_of bytes 0))) ≡ sample row
    laid-draws = hits-answer row (drawn M (upto M.columns (bit_of bytes 0))) laid-least.hit

    -- in the row's first set column, and the bits after that are 0
    pub laid-walks : (c : ℕ) × (first_column M row ≡ some c) ×
        (walk_of file bytes ≡ gives (record { answer = sample row; used = c + 1 })) ×
        ((i : ℕ) → c < i → i < M.columns → bit_of bytes 0 i ≡ 0)
    unfolding used number_string
    laid-walks =
        let n : ℕ = M.columns in
        let x : ℕ = made_of.1.0 in
        let f = first-column M (read_accepted file M e) row made_of.0 x made_of.1.1 in (
          f.0,
          f.1,
          walk_is file M e bytes laid-sound ∙ ap (λ (d : Drawn). gives (spending_of n d)) (ap (drawn M) laid-bits ∙ f.2),
          (λ i a l.
              sym (get_d_upto n (bit_of bytes 0) i 0 l) ∙
              (ap (λ (s : List ℕ). get_or s i 0) laid-bits ∙ (get_d_upto n (digit n x) i 0 l ∙ f.3 i a l))),
        )

    -- and on no string with a smaller number: it draws another row or misses
    pub laid-first : (other : List ℕ) → read_number M.columns other < read_number M.columns bytes →
        gives_that (is_row row) (walk_of file other) ≡ false
    laid-first other l =
        not-walked other (laid-least.least (upto M.columns (bit_of other 0)) (read_bits M.columns other) l)
