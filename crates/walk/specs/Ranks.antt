-- One column of the walk, by its ones: a distance below them hits the set row that has so many set rows above it, and any other distance
-- is left less by them. Assumes nothing.
use Rattle.std.specs.Prelude.{ℕ, zero, suc, ◌+◌, ◌-◌, ◌≤◌, ◌<◌, ◌≡◌, refl}
use Rattle.std.proofs.Common.{ap, ◌∙◌, ⊎_elim, eq-or-lt_of_le, le_of_suc-le-suc, arith}
use Rattle.laws.specs.Sums.{sum_to, sum-front-le}
use Rattle.walk.specs.Walk.{Place, found, left, at, scan}

-- ---- the distance, by what a column does
-- of s ones: the distance d and the ones of the rows from row v down are s; or the ones and what is left are d
abbrev pub Ranked : (ℕ → ℕ) → ℕ → ℕ → Place → Type 0
Ranked column s d (found v) = d + sum_to (suc v) column ≡ s
Ranked column s d (left e) = d ≡ s + e

ranked_on : (column : ℕ → ℕ) (x s d s' d' : ℕ) (o : Place) → s' ≡ x + s → d' ≡ x + d → Ranked column s d o → Ranked column s' d' o
ranked_on column x s d s' d' (found v) p q r = omega arith
ranked_on column x s d s' d' (left e) p q r = omega arith

at_ranked : (column : ℕ → ℕ) (b row d : ℕ) (go : ℕ → Place) → b ≡ column row → b ≤ 1 →
    ((e : ℕ) → Ranked column (sum_to row column) e (go e)) → Ranked column (b + sum_to row column) d (at b row d go)
unfolding at sum_to
at_ranked column zero row d go e l f =
    ranked_on column 0 (sum_to row column) d (0 + sum_to row column) d (go d) refl (omega arith) (f d)
at_ranked column (suc b) row zero go e l f = omega arith
at_ranked column (suc b) row (suc d) go e l f =
    ranked_on column 1 (sum_to row column) d (suc b + sum_to row column) (suc d) (go d) (omega arith) (omega arith) (f d)

pub scan_ranked : (column : ℕ → ℕ) (r d : ℕ) → ((v : ℕ) → v < r → column v ≤ 1) → Ranked column (sum_to r column) d (scan column r d)
unfolding scan sum_to
scan_ranked column zero d ok = omega arith
scan_ranked column (suc r) d ok =
    at_ranked column (column r) r d (λ e. scan column r e) refl (ok r (omega arith))
    (λ e. scan_ranked column r e (λ v l. ok v (omega arith)))

-- ---- what a column does, by the distance
at_skip : (b row d e : ℕ) (go : ℕ → Place) → b ≤ 1 → d ≡ b + e → at b row d go ≡ go e
unfolding at
at_skip zero row d e go l q = ap go (omega arith)
at_skip (suc b) row zero e go l q = absurd (omega arith)
at_skip (suc b) row (suc d) e go l q = ap go (omega arith)

pub scan_passes : (column : ℕ → ℕ) (r d e : ℕ) → ((v : ℕ) → v < r → column v ≤ 1) → d ≡ sum_to r column + e → scan column r d ≡ left e
unfolding scan sum_to
scan_passes column zero d e ok q = ap left (omega arith)
scan_passes column (suc r) d e ok q =
    at_skip (column r) r d (sum_to r column + e) (λ e. scan column r e) (ok r (omega arith)) (omega arith) ∙
    scan_passes column r (sum_to r column + e) e (λ v l. ok v (omega arith)) refl

pub scan_finds : (column : ℕ → ℕ) (r v d : ℕ) → ((v : ℕ) → v < r → column v ≤ 1) → v < r → column v ≡ 1 →
    d + sum_to (suc v) column ≡ sum_to r column → scan column r d ≡ found v
unfolding at scan sum_to
scan_finds column zero v d ok h s e = absurd (omega arith)
scan_finds column (suc r) v d ok h s e =
    ⊎_elim
    (λ (q : v ≡ r).
    let z : d ≡ 0 = omega (arith, ap (λ (k : ℕ). sum_to (suc k) column) q) in
    rw (z, ← q, s))
    (λ (q : v < r).
    let l : sum_to (suc v) column ≤ sum_to r column = sum-front-le (suc v) r column q in
    at_skip (column r) r d (d - column r) (λ e. scan column r e) (ok r (omega arith)) (omega arith) ∙
    scan_finds column r v (d - column r) (λ v l. ok v (omega arith)) q s (omega arith))
    (eq-or-lt_of_le (le_of_suc-le-suc h))
