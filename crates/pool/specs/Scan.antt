-- What the pass over the signers adds up (02, order 9: the pool goes through its list of signers). Assumes nothing.
use Rattle.std.specs.Prelude.{ℕ, ◌+◌, ◌*◌, ◌^◌, ◌≤◌, ◌||◌, List, length}
use Rattle.laws.specs.Sums.{any, sum_to}
use Rattle.pool.specs.Pool.{signer_at, claim, reserve_above, drawn_above}
use Rattle.pool.specs.declared.signers.Signer.{Signer}
use Rattle.pool.specs.declared.signers.Sums.{Sums}

-- what the first k signers come to, and what all do
abbrev pub sums_first : ℕ → List Signer → Sums
sums_first k xs = record {
  reserved = sum_to k (λ j. (signer_at xs j).reserve);
  drawn = sum_to k (λ j. (signer_at xs j).drawn);
  claimed = sum_to k (λ j. claim (signer_at xs j));
  above = any k (λ j. reserve_above (signer_at xs j));
  over = any k (λ j. drawn_above (signer_at xs j));
}

abbrev pub sums_of : List Signer → Sums
sums_of xs = sums_first (length xs) xs

-- the sums with one more signer
abbrev pub added : Sums → Signer → Sums
added a s = record {
  reserved = a.reserved + s.reserve;
  drawn = a.drawn + s.drawn;
  claimed = a.claimed + claim s;
  above = a.above || reserve_above s;
  over = a.over || drawn_above s;
}

-- sums of k signers, of 32 bits each, are small
abbrev pub Small : ℕ → Sums → Type 0
Small k a = (a.reserved ≤ k * 2 ^ 32) × (a.drawn ≤ k * 2 ^ 32) × (a.claimed ≤ k * 2 ^ 32)
