-- 01, "Runs, words, samples" and "The engine's no": strings of bits that are lent, packed as a matrix row. Assumes nothing.
use Rattle.std.specs.Prelude.{ℕ, ◌*◌, ◌/◌, ◌≤◌, ◌<◌, ◌≡◌, Bool, true, false, List, ltb, length}
use Rattle.std.proofs.Common.{sym, div-lt_iff_lt-mul, le-div_iff_mul-le, arith}
use borrow.Author.Tests.{lt-ltb, le-ltb}
use Rattle.laws.specs.Sums.{any}
use Rattle.laws.specs.Outcome.{Outcome, refused, refuse, ◌>>◌}
use Rattle.fields.specs.Fields.{spare, width}
use Rattle.fields.specs.Limits.{outside, most_columns, within}

-- whether a spare bit is set behind any of `count` strings of n bits, one after another
abbrev pub any_spare : ℕ → ℕ → List ℕ → Bool
any_spare count n bytes = any count (λ v. spare bytes n (v * width n))

-- `count` strings of n bits, one after another, of which at most `most` are allowed: their sizes, that all are there, and their spare bits
unfoldable pub strings_under : ℕ → ℕ → ℕ → List ℕ → Outcome (Unit {0})
strings_under most count n bytes = do
  refuse 3 (outside most n)
  refuse 13 (ltb (length bytes) (count * width n))
  refuse 5 (any_spare count n bytes)

-- at the limit of columns
abbrev pub strings_of : ℕ → ℕ → List ℕ → Outcome (Unit {0})
strings_of = strings_under most_columns

-- ---- the ways through the checks, with the room found by a division
module _ (count n : ℕ) (bytes : List ℕ) where
  pub strings-size : outside most_columns n ≡ true → refused 3 ≡ strings_of count n bytes
  unfolding strings_under
  strings-size a = rw a

  module _ (a : outside most_columns n ≡ false) where
    wide : 0 < width n
    wide = omega (arith, (within most_columns n a).0)

    pub strings-room : count ≤ length bytes / width n → count * width n ≤ length bytes
    strings-room h = (le-div_iff_mul-le wide).0 h

    pub strings-short : length bytes / width n < count → refused 13 ≡ strings_of count n bytes
    unfolding strings_under
    strings-short h = rw (a, lt-ltb (length bytes) (count * width n) ((div-lt_iff_lt-mul wide).0 h))

    -- all are there: what is left is whether a spare bit is set
    pub strings-whole : count * width n ≤ length bytes → strings_of count n bytes ≡ refuse 5 (any_spare count n bytes)
    unfolding strings_under
    strings-whole h = rw (a, le-ltb (length bytes) (count * width n) h)

    pub strings-spare : count ≤ length bytes / width n → (b : Bool) → b ≡ any_spare count n bytes → refuse 5 b ≡ strings_of count n bytes
    strings-spare h b e = rw e (sym (strings-whole (strings-room h)))
