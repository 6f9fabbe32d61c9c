-- In an accepted matrix no column has more ones than there are places open, twice the live count before it. Assumes nothing.
use Rattle.std.specs.Prelude.{ℕ, zero, suc, ◌+◌, ◌*◌, ◌^◌, ◌≤◌, ◌<◌, ◌≡◌, refl, leb}
use Rattle.std.proofs.Common.{◌∙◌, ⊎_elim, eq-or-lt_of_le, arith}
use Rattle.std.proofs.Math.Bool.{true}
use borrow.Author.Tests.{le-leb, leb-true}
use Rattle.laws.specs.Tests.{both}
use Rattle.files.specs.Matrix.{Matrix, Accepted, bit, ones_in}
use Rattle.files.specs.Live.{total_from, live, live-is}
use Rattle.files.specs.Checks.{total-is}
use Rattle.files.specs.RoundTrip.{accepted-bits}
use Rattle.compiler.specs.Translation.{live_before}

-- what the laws of the translation need of the m rows and n columns of bits
pub record Roomy (m n : ℕ) (bit : ℕ → ℕ → ℕ) : Type 0 where
  pub some_rows : 1 ≤ m
  pub bits : (v c : ℕ) → v < m → c < n → bit v c ≤ 1
  pub room : (c : ℕ) → c < n → ones_in bit m c ≤ 2 * live_before bit m c

pub live-le : (bit : ℕ → ℕ → ℕ) (m c : ℕ) → 1 ≤ m → live_before bit m c ≤ m
unfolding live_before
live-le bit m zero h = h
live-le bit m (suc c) h = omega arith

-- the ones of a column and the places that stay live after it are among the places open
pub live-next : (m n : ℕ) (bit : ℕ → ℕ → ℕ) → Roomy m n bit → (c : ℕ) → c < n →
    ones_in bit m c + live_before bit m (suc c) ≤ 2 * live_before bit m c
unfolding live_before
live-next m n bit r c h = omega (arith, r.room c h)

-- column by column, as the live test goes
live-room : (bit : ℕ → ℕ → ℕ) (m k c : ℕ) → live bit m c (live_before bit m c) k ≡ true → (i : ℕ) → c ≤ i → i < c + k →
    ones_in bit m i ≤ 2 * live_before bit m i
unfolding live live_before
live-room bit m zero c e i a b = absurd (omega arith)
live-room bit m (suc k) c e i a b =
    let t = both (leb (ones_in bit m c) (2 * live_before bit m c)) (live bit m (suc c) (live_before bit m (suc c)) k) e in
    ⊎_elim
    (λ (q : c ≡ i). rw (← q) (leb-true (ones_in bit m c) (2 * live_before bit m c) t.0))
    (λ (q : c < i). live-room bit m k (suc c) t.1 i q (omega arith))
    (eq-or-lt_of_le a)

module _ (M : Matrix) (a : Accepted M) where
  pub accepted-roomy : Roomy M.rows M.columns (bit M)
  unfolding live_before
  accepted-roomy =
      let open-places : live (bit M) M.rows 0 1 M.columns ≡ true =
      live-is (bit M) M.rows M.columns (accepted-bits M a) ∙
      le-leb (total_from (bit M) M.rows 0 M.columns) (2 ^ M.columns)
      (omega (arith, a.sum, total-is M (bit M) (λ v c h l. refl))) in
      record {
        some_rows = a.some_rows;
        bits = accepted-bits M a;
        room = λ c h. live-room (bit M) M.rows M.columns 0 open-places c (omega arith) (omega arith);
      }
