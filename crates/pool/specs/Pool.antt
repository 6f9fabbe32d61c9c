-- 02, order 9: one entropy buffer, several signers. Assumes nothing.
use Rattle.std.specs.Prelude.{ℕ, ◌+◌, ◌-◌, max, Bool, true, false, ◌||◌, List, map, eqb, leb, ltb, length, get_or, set}
use Rattle.laws.specs.Sums.{any, sum_to}
use Rattle.laws.specs.Outcome.{Outcome, gives, refuse, ◌>>◌}
use Rattle.fields.specs.Limits.{outside}
use Rattle.pool.specs.declared.signers.Signer.{Signer}

-- a module hosts 1 to 16 signers; W, the number of words, is at most 65,536, and may be 0
abbrev pub most_signers : ℕ
most_signers = 16

abbrev pub most_words : ℕ
most_words = 65536

abbrev pub sizes_unfit : ℕ → ℕ → Bool
sizes_unfit W n = ltb most_words W || outside most_signers n

-- ---- signers
-- the signer of a number; where it is not opened, one that may draw nothing
abbrev pub no_signer : Signer
no_signer = record { reserve = 0; cap = 0; drawn = 0 }

abbrev pub signer_at : List Signer → ℕ → Signer
signer_at xs j = get_or xs j no_signer

-- what a signer still lacks of its reserve: 0 once it has drawn as much
abbrev pub lack : Signer → ℕ
lack s = s.reserve - s.drawn

-- what it has a claim on: the larger of its reserve and what it has drawn
abbrev pub claim : Signer → ℕ
claim s = max s.reserve s.drawn

-- a number of each signer, added up; and whether some signer passes a test
abbrev pub sum_of : (Signer → ℕ) → List Signer → ℕ
sum_of f xs = sum_to (length xs) (λ j. f (signer_at xs j))

abbrev pub some_of : (Signer → Bool) → List Signer → Bool
some_of t xs = any (length xs) (λ j. t (signer_at xs j))

-- a reserve above its cap; more drawn than the cap
abbrev pub reserve_above : Signer → Bool
reserve_above s = ltb s.cap s.reserve

abbrev pub drawn_above : Signer → Bool
drawn_above s = ltb s.cap s.drawn

-- what all have drawn: where the next words start; and the words that are left
abbrev pub drawn_by_all : List Signer → ℕ
drawn_by_all xs = sum_of (λ s. s.drawn) xs

abbrev pub left : ℕ → List Signer → ℕ
left W xs = W - drawn_by_all xs

-- what the signers other than i lack together
abbrev pub lack_unless : Bool → Signer → ℕ
lack_unless true s = 0
lack_unless false s = lack s

abbrev pub others_lack : List Signer → ℕ → ℕ
others_lack xs i = sum_to (length xs) (λ j. lack_unless (eqb j i) (signer_at xs j))

-- ---- what changes
-- nobody has drawn
abbrev pub clear : Signer → Signer
clear s = record { reserve = s.reserve; cap = s.cap; drawn = 0 }

abbrev pub cleared : List Signer → List Signer
cleared xs = map clear xs

-- a signer has drawn q more
abbrev pub drawing : Signer → ℕ → Signer
drawing s q = record { reserve = s.reserve; cap = s.cap; drawn = s.drawn + q }

-- ---- the operations
-- an opening of W words: what was drawn before is not looked at
unfoldable pub open_of : ℕ → List Signer → Outcome (List Signer)
open_of W xs = do
  refuse 3 (sizes_unfit W (length xs))
  refuse 3 (some_of reserve_above xs)
  refuse 3 (ltb W (sum_of (λ s. s.reserve) xs))
  gives (cleared xs)

-- records that no opening and draws on W words can leave are 3; that these are the ones is `left_iff` (specs/Theorems.antt)
unfoldable pub records_of : ℕ → List Signer → Outcome (Unit {0})
records_of W xs = do
  refuse 3 (sizes_unfit W (length xs))
  refuse 3 (some_of reserve_above xs)
  refuse 3 (some_of drawn_above xs)
  refuse 3 (ltb W (sum_of claim xs))
  gives tt

-- what a draw that is granted answers and leaves: where its words start, and the records
pub record Grant : Type 0 where
  pub start : ℕ
  pub signers : List Signer

abbrev pub grant : List Signer → ℕ → ℕ → Grant
grant xs i q = record { start = drawn_by_all xs; signers = set xs i (drawing (signer_at xs i) q) }

-- a draw of q words by signer i
unfoldable pub draw_of : ℕ → List Signer → ℕ → ℕ → Outcome Grant
draw_of W xs i q = do
  records_of W xs
  refuse 17 (leb (length xs) i)
  refuse 18 (ltb (signer_at xs i).cap ((signer_at xs i).drawn + q))
  refuse 19 (ltb (left W xs) q)
  refuse 19 (ltb (left W xs - q) (others_lack xs i))
  gives (grant xs i q)

-- a refill: W and the signers stay, and nobody has drawn
unfoldable pub refill_of : ℕ → List Signer → Outcome (List Signer)
refill_of W xs = do
  records_of W xs
  gives (cleared xs)
