-- The pass over the signers, turn by turn, and the one that clears what they have drawn (specs/Scan.antt). Assumes nothing.
use Rattle.std.specs.Prelude.{ℕ, ◌+◌, ◌-◌, ◌*◌, ◌^◌, ◌<◌, ◌≤◌, ◌≡◌, refl, Bool, true, false, List, length, set}
use Rattle.std.proofs.Common.{sym, ◌∙◌, ap, subst, ⊎_elim, eq-or-lt_of_le, lt_irrefl, not-suc-le-zero, arith}
use Rattle.std.proofs.Common.{length-set, get_or-set_same, get_or-set_other, ext_get_or}
use Rattle.laws.specs.Sums.{any, sum_to, any_next, sum_more}
use Rattle.pool.specs.Pool.{most_signers, no_signer, signer_at, lack_unless, claim, reserve_above, drawn_above, clear, cleared}
use Rattle.pool.specs.Amounts.{cleared_at, length-cleared}
use Rattle.pool.specs.Scan.{Small, added, sums_first, sums_of}
use Rattle.pool.specs.declared.signers.Signer.{Signer}
use Rattle.pool.specs.declared.signers.Sums.{Sums}

-- what a signer lacks is at most its reserve
pub lack-le : (t : Bool) (s : Signer) → lack_unless t s ≤ s.reserve
lack-le true s = omega arith
lack-le false s = omega arith

-- ---- the first i signers are added up, in a
pub record Going (xs : List Signer) (i : ℕ) (a : Sums) : Type 0 where
  pub are : a ≡ sums_first i xs
  pub small : Small i a

no_sums : (xs : List Signer) → record { reserved = 0; drawn = 0; claimed = 0; above = false; over = false } ≡ sums_first 0 xs
unfolding sum_to any
no_sums xs = refl

pub going_start : (xs : List Signer) (a : Sums) →
    (a.reserved ≡ 0) × ((a.drawn ≡ 0) × ((a.claimed ≡ 0) × ((a.above ≡ false) × (a.over ≡ false)))) → Going xs 0 a
going_start xs a (p, (q, (s, (t, v)))) = record {
  are = (λ j. record { reserved = p j; drawn = q j; claimed = s j; above = t j; over = v j }) ∙ no_sums xs;
  small = (omega arith, omega arith, omega arith);
}

sums_next : (xs : List Signer) (i : ℕ) → sums_first (i + 1) xs ≡ added (sums_first i xs) (signer_at xs i)
sums_next xs i = λ j. record {
  reserved = sum_more i (λ k. (signer_at xs k).reserve) j;
  drawn = sum_more i (λ k. (signer_at xs k).drawn) j;
  claimed = sum_more i (λ k. claim (signer_at xs k)) j;
  above = any_next i (λ k. reserve_above (signer_at xs k)) j;
  over = any_next i (λ k. drawn_above (signer_at xs k)) j;
}

pub going_turn : (xs : List Signer) (i : ℕ) (a r : Sums) → (signer_at xs i).reserve < 2 ^ 32 → (signer_at xs i).drawn < 2 ^ 32 →
    Going xs i a → r ≡ added a (signer_at xs i) → Going xs (i + 1) r
going_turn xs i a r gr gd g p = record {
  are = p ∙ ap (λ (b : Sums). added b (signer_at xs i)) g.are ∙ sym (sums_next xs i);
  small = rw p (omega (arith, g.small.0), omega (arith, g.small.1), omega (arith, g.small.2));
}

pub going_done : (xs : List Signer) (i : ℕ) (a : Sums) → length xs ≤ most_signers → i ≡ length xs → Going xs i a
    → (a ≡ sums_of xs) × Small most_signers a
going_done xs i a few p g =
    (g.are ∙ ap (λ (k : ℕ). sums_first k xs) p, (omega (arith, g.small.0), omega (arith, g.small.1), omega (arith, g.small.2)))

-- ---- the signers before place i are cleared, in zs, and the others are as they were
abbrev pub Clearing : List Signer → ℕ → List Signer → Type 0
Clearing xs i zs =
    (i ≤ length xs) × (length zs ≡ length xs) × ((j : ℕ) → j < i → signer_at zs j ≡ clear (signer_at xs j)) ×
    ((j : ℕ) → i ≤ j → signer_at zs j ≡ signer_at xs j)

pub clearing_start : (xs : List Signer) → Clearing xs 0 xs
clearing_start xs = (omega arith, refl, (λ j l. absurd (not-suc-le-zero l)), (λ j l. refl))

pub clearing_turn : (xs : List Signer) (i : ℕ) (zs : List Signer) → i < length xs → Clearing xs i zs
    → Clearing xs (i + 1) (set zs i (clear (signer_at zs i)))
clearing_turn xs i zs l (h, n, before, after) = (omega arith, length-set zs i _ ∙ n, first, rest)
  where
    first : (j : ℕ) → j < i + 1 → signer_at (set zs i (clear (signer_at zs i))) j ≡ clear (signer_at xs j)
    first j m =
        ⊎_elim
        (λ (q : j ≡ i). rw q (get_or-set_same zs i _ no_signer (omega arith) ∙ ap clear (after i (omega arith))))
        (λ (q : j < i). get_or-set_other zs i j _ no_signer (λ r. absurd (lt_irrefl i (subst (λ (k : ℕ). k < i) r q))) ∙ before j q)
        (eq-or-lt_of_le (omega arith))

    rest : (j : ℕ) → i + 1 ≤ j → signer_at (set zs i (clear (signer_at zs i))) j ≡ signer_at xs j
    rest j m = get_or-set_other zs i j _ no_signer (λ r. absurd (lt_irrefl i (omega arith))) ∙ after j (omega arith)

pub clearing_done : (xs : List Signer) (i : ℕ) (zs : List Signer) → i ≡ length xs → Clearing xs i zs → zs ≡ cleared xs
clearing_done xs i zs p (h, n, before, after) =
    ext_get_or no_signer zs (cleared xs) (n ∙ sym (length-cleared xs))
    (λ j m. before j (omega arith) ∙ sym (cleared_at xs j))

-- ---- places in a list of n records of 12 bytes
pub place_fits : (i n : ℕ) → i < n → n * 12 < 2 ^ 63 → i * 12 < 2 ^ 64
place_fits i n l h = omega arith

pub next_fits : (i n : ℕ) → i < n → n < 2 ^ 64 → i + 1 < 2 ^ 64
next_fits i n l h = omega arith

pub nearer : (i n : ℕ) → i < n → n - (i + 1) < n - i
nearer i n l = omega arith
