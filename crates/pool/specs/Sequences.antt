-- 02, order 9: calls one after another from an opening on, granted or refused, each on the W and the records that the one before left; and
-- the words that they hand out. Assumes nothing.
use Rattle.std.specs.Prelude.{ℕ, ◌+◌, ◌≡◌, Bool, true, false, ◌&&◌, List, [], ◌∷◌, ◌++◌, leb, ltb, length}
use Rattle.laws.specs.Lists.{upto}
use Rattle.laws.specs.Lay.{lay}
use Rattle.laws.specs.Outcome.{Outcome, refused, gives, laid}
use Rattle.pool.specs.Pool.{draw_of, open_of, refill_of, signer_at}
use Rattle.pool.specs.declared.signers.Signer.{Signer}

-- a call on a pool that is open: a draw of q words by signer i, or a refill
pub data Call : Type 0 where
  draw : ℕ → ℕ → Call
  refill : Call

-- words that are handed out: where they start, and how many
pub record Range : Type 0 where
  pub start : ℕ
  pub words : ℕ

-- a pool between two calls: the records, and what went out since the opening or the last refill, in order
pub record Pool : Type 0 where
  pub signers : List Signer
  pub handed : List Range

-- nothing has gone out after a refill that is not refused
abbrev pub handed_by : Outcome (List Signer) → List Range → List Range
handed_by (refused k) rs = rs
handed_by (gives ys) rs = []

-- what a call leaves: the records as its contract has them
abbrev pub after : ℕ → Pool → Call → Pool
after W p (draw i q) = let o = draw_of W p.signers i q in record {
  signers = lay (laid (λ g. g.signers) o) p.signers;
  handed = p.handed ++ laid (λ g. record { start = g.start; words = q } ∷ []) o;
}
after W p refill = let o = refill_of W p.signers in record {
  signers = lay (laid (λ ys. ys) o) p.signers;
  handed = handed_by o p.handed;
}

abbrev pub after_all : ℕ → Pool → List Call → Pool
after_all W p [] = p
after_all W p (c ∷ cs) = after_all W (after W p c) cs

-- a pool that an opening and calls have come to
pub record Reached (W : ℕ) (p : Pool) : Type 0 where
  pub before : List Signer
  pub opened : List Signer
  pub opens : open_of W before ≡ gives opened
  pub calls : List Call
  pub is : p ≡ after_all W (record { signers = opened; handed = [] }) calls

-- records that an opening and calls have left
pub record Left (W : ℕ) (xs : List Signer) : Type 0 where
  pub pool : Pool
  pub reached : Reached W pool
  pub are : pool.signers ≡ xs

-- a draw by each signer, in their order, of as much as it has drawn
abbrev pub draws_of : List Signer → List Call
draws_of xs = upto (length xs) (λ j. draw j (signer_at xs j).drawn)

-- ---- the words that are handed out
-- ranges that begin at a, follow each other without a gap, and end at b
abbrev pub Consecutive : ℕ → List Range → ℕ → Type 0
Consecutive a [] b = a ≡ b
Consecutive a (r ∷ rs) b = (r.start ≡ a) × Consecutive (a + r.words) rs b

-- how many of the ranges have word w
abbrev pub one_where : Bool → ℕ
one_where true = 1
one_where false = 0

abbrev pub times : ℕ → List Range → ℕ
times w [] = 0
times w (r ∷ rs) = one_where (leb r.start w && ltb w (r.start + r.words)) + times w rs
