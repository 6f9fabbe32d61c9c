-- Sums over the signers: where one record changes, where all are cleared, and how claims are made up. Assumes nothing.
use Rattle.std.specs.Prelude.{ℕ, ◌+◌, ◌<◌, ◌≡◌, refl, Bool, List, eqb, length, set}
use Rattle.std.proofs.Common.{◌∙◌, ap, arith, eq-eqb, ne_eqb, length-set, get_or-set_same, get_or-set_other}
use Rattle.std.proofs.lemmas.List.{length-map}
use Rattle.std.proofs.Math.ListN.{get_or-map}
use Rattle.laws.specs.Sums.{sum_to, sum_changed, sum-eq, sum_plus, sum_same}
use Rattle.pool.specs.Pool.{no_signer, signer_at, lack, claim, sum_of, drawn_by_all, lack_unless, others_lack, clear, cleared}
use Rattle.pool.specs.declared.signers.Signer.{Signer}

module _ (xs : List Signer) where
  -- ---- one record is changed
  module _ (i : ℕ) (s : Signer) (h : i < length xs) where
    pub sum-set : (f : Signer → ℕ) → sum_of f (set xs i s) + f (signer_at xs i) ≡ sum_of f xs + f s
    sum-set f =
        let same = get_or-set_same xs i s no_signer h in
        let changed = sum_changed (length xs) i (λ j. f (signer_at (set xs i s) j)) (λ j. f (signer_at xs j)) h
        (λ j ne. ap f (get_or-set_other xs i j s no_signer ne)) in
        rw (length-set xs i s) (changed ∙ ap (λ (t : Signer). sum_of f xs + f t) same)

  -- ---- claims
  pub claims-are : sum_of claim xs ≡ drawn_by_all xs + sum_of lack xs
  claims-are =
      sum_plus (length xs) (λ j. claim (signer_at xs j)) (λ j. (signer_at xs j).drawn) (λ j. lack (signer_at xs j)) (λ j. omega arith)

  -- what all lack is what the others lack, and what one lacks
  pub lack-split : (i : ℕ) → i < length xs → sum_of lack xs ≡ others_lack xs i + lack (signer_at xs i)
  lack-split i h =
      let own : lack_unless (eqb i i) (signer_at xs i) ≡ 0 = ap (λ (t : Bool). lack_unless t (signer_at xs i)) (eq-eqb i i refl) in
      let other = sum_changed (length xs) i (λ j. lack_unless (eqb j i) (signer_at xs j)) (λ j. lack (signer_at xs j)) h
      (λ j ne. ap (λ (t : Bool). lack_unless t (signer_at xs j)) (ne_eqb j i ne)) in
      omega (arith, own, other)

  -- ---- all are cleared
  pub cleared_at : (j : ℕ) → signer_at (cleared xs) j ≡ clear (signer_at xs j)
  cleared_at j = get_or-map clear xs j no_signer

  pub length-cleared : length (cleared xs) ≡ length xs
  length-cleared = length-map xs clear

  pub sum-cleared : (f : Signer → ℕ) → sum_of f (cleared xs) ≡ sum_to (length xs) (λ j. f (clear (signer_at xs j)))
  sum-cleared f = rw length-cleared (sum-eq (length xs) _ _ (λ j l. ap f (cleared_at j)))

  pub none-drawn : drawn_by_all (cleared xs) ≡ 0
  none-drawn = sum-cleared (λ s. s.drawn) ∙ sum_same (length xs) 0 (λ j. 0) (λ j. refl) ∙ omega arith
