-- 01, "Runs, words, samples": 64 strings of bits as words. Bit j of word i is bit i of string j. Assumes nothing.
use Rattle.std.specs.Prelude.{ℕ, ◌*◌, ◌≤◌, ◌<◌, ◌≡◌, List, ltb, length, take, drop}
use Rattle.std.proofs.Common.{sym}
use borrow.Author.Tests.{lt-ltb, le-ltb, ltb-false}
use Rattle.laws.specs.Words.{pack}
use Rattle.laws.specs.Lists.{upto}
use Rattle.laws.specs.Outcome.{Outcome, refused, gives, refuse, ◌>>◌, passed}
use Rattle.fields.specs.Fields.{bit_of, width}
use Rattle.fields.specs.Limits.{outside, most_columns}
use Rattle.fields.specs.Strings.{strings_under, strings_of}

-- the bits of a word
abbrev pub lanes : ℕ
lanes = 64

-- string j of 64 strings of n bits, one after another
unfoldable pub string_at : ℕ → List ℕ → ℕ → List ℕ
string_at n strings j = take (width n) (drop (j * width n) strings)

-- and its bits
abbrev pub string_bits : ℕ → List ℕ → ℕ → List ℕ
string_bits n strings j = upto n (bit_of strings (j * width n))

-- word i of 64 strings of w bytes each: bit j is bit i of string j
unfoldable pub word_of : List ℕ → ℕ → ℕ → ℕ
word_of strings w i = pack lanes (λ j. bit_of strings (j * w) i)

-- slicing 64 strings of n bits, of which at most `most` are allowed, into a buffer of `room` words: the n words that are laid down
unfoldable pub slice_under : ℕ → ℕ → List ℕ → ℕ → Outcome (List ℕ)
slice_under most n strings room = do
  strings_under most lanes n strings
  refuse 13 (ltb room n)
  gives (upto n (word_of strings (width n)))

-- at the limit of columns
abbrev pub slice_of : ℕ → List ℕ → ℕ → Outcome (List ℕ)
slice_of = slice_under most_columns

-- ---- the ways through the checks
module _ (n : ℕ) (strings : List ℕ) (room : ℕ) where
  pub slice_refused : (k : ℕ) → refused k ≡ strings_of lanes n strings → slice_of n strings room ≡ refused k
  unfolding slice_under
  slice_refused k e = rw (← e)

  pub slice_short : gives tt ≡ strings_of lanes n strings → room < n → slice_of n strings room ≡ refused 13
  unfolding slice_under
  slice_short e h = rw (← e, lt-ltb room n h)

  pub slice_gives : gives tt ≡ strings_of lanes n strings → n ≤ room → slice_of n strings room ≡ gives (upto n (word_of strings (width n)))
  unfolding slice_under
  slice_gives e h = rw (← e, le-ltb room n h)

-- what strings that passed say: that they are there
pub strings-there : (n : ℕ) (strings : List ℕ) (room : ℕ) → gives tt ≡ strings_of lanes n strings → n ≤ room →
    (lanes * width n ≤ length strings) × (n ≤ room)
unfolding strings_under
strings-there n strings room e h =
    let c1 = passed 3 (outside most_columns n) _ tt (sym e) in
    let c2 = passed 13 (ltb (length strings) (lanes * width n)) _ tt c1.1 in
    (ltb-false (length strings) (lanes * width n) c2.0, h)
