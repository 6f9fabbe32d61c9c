-- Sound records are left by an opening and draws: they are opened themselves, and then each signer draws what it has drawn (02, order 9).
-- Assumes nothing.
use Prim.Native.Nat.{ℕ, zero, suc, ◌+◌, ◌≤◌, ◌<◌}
use Rattle.std.specs.Prelude.{◌≡◌, Bool, true, false, List, [], ◌≢◌, ltb, length, set}
use Rattle.std.proofs.Common.{sym, ◌∙◌, ap, subst, ⊎_elim, zero-add, eq-or-lt_of_le, lt_irrefl, add-one, arith, lt-ltb, le-ltb, length-set}
use Rattle.std.proofs.Common.{ext_get_or, get_or-set_same, get_or-set_other}
use Rattle.std.proofs.Math.Nat.{add-zero}
use Rattle.std.proofs.Math.ListN.{get_or-eq_default}
use Rattle.laws.specs.Tests.{lt-or_ge}
use Rattle.laws.specs.Sums.{sum_mono}
use Rattle.laws.specs.Lists.{from, upto, length-upto, get_d_upto, upto_from}
use Rattle.laws.specs.Outcome.{gives}
use Rattle.pool.specs.Pool.{no_signer, signer_at, claim, sum_of, clear, cleared, drawing, open_of, draw_of, grant}
use Rattle.pool.specs.Sequences.{Call, draw, Pool, after, after_all, draws_of}
use Rattle.pool.specs.Sound.{Sized, Sound, opens_iff, sound-opens, drawn_claimed}
use Rattle.pool.specs.Amounts.{sum-set, claims-are, lack-split, cleared_at, length-cleared}
use Rattle.pool.specs.Kept.{Granted, draw-gives}
use Rattle.pool.specs.Calls.{after_granted}
use Rattle.pool.specs.declared.signers.Signer.{Signer}

-- one of two signers
abbrev either_signer : Bool → Signer → Signer → Signer
either_signer true s t = s
either_signer false s t = t

module _ (W : ℕ) (xs : List Signer) (s : Sound W xs) where
  -- the draw of signer j, and the records once the first k have drawn
  abbrev draw_for : ℕ → Call
  draw_for j = draw j (signer_at xs j).drawn

  abbrev mixed_at : ℕ → ℕ → Signer
  mixed_at k j = either_signer (ltb j k) (signer_at xs j) (clear (signer_at xs j))

  mixed : ℕ → List Signer
  mixed k = upto (length xs) (mixed_at k)

  long : (k : ℕ) → length (mixed k) ≡ length xs
  unfolding mixed
  long k = length-upto (length xs) (mixed_at k)

  at : (k j : ℕ) → j < length xs → signer_at (mixed k) j ≡ mixed_at k j
  unfolding mixed
  at k j h = get_d_upto (length xs) (mixed_at k) j no_signer h

  -- a signer before place k, and one from there on
  drawn-at : (k j : ℕ) → j < length xs → j < k → signer_at (mixed k) j ≡ signer_at xs j
  drawn-at k j h l = at k j h ∙ ap (λ (t : Bool). either_signer t (signer_at xs j) (clear (signer_at xs j))) (lt-ltb j k l)

  clear_at : (k j : ℕ) → j < length xs → k ≤ j → signer_at (mixed k) j ≡ clear (signer_at xs j)
  clear_at k j h l = at k j h ∙ ap (λ (t : Bool). either_signer t (signer_at xs j) (clear (signer_at xs j))) (le-ltb j k l)

  -- ---- the first and the last of them
  mixed-first : cleared xs ≡ mixed 0
  mixed-first = ext_get_or no_signer (cleared xs) (mixed 0) (length-cleared xs ∙ sym (long 0))
      (λ j h. cleared_at xs j ∙ sym (clear_at 0 j (rw (← length-cleared xs) h) (omega arith)))

  mixed-last : mixed (length xs) ≡ xs
  mixed-last = ext_get_or no_signer (mixed (length xs)) xs (long (length xs)) (λ j h.
      let l : j < length xs = omega (arith, h, long (length xs)) in drawn-at (length xs) j l l)

  -- ---- from one to the next
  mixed-next : (k : ℕ) → k < length xs → set (mixed k) k (signer_at xs k) ≡ mixed (k + 1)
  mixed-next k h = ext_get_or no_signer (set (mixed k) k (signer_at xs k)) (mixed (k + 1)) (is ∙ long k ∙ sym (long (k + 1)))
      (λ j l. let l : j < length xs = omega (arith, l, is, long k) in ⊎_elim
      (λ (a : j < k). other j (λ e. lt_irrefl k (omega arith)) ∙ drawn-at k j l a ∙ sym (drawn-at (k + 1) j l (omega arith)))
      (λ (a : k ≤ j). ⊎_elim
      (λ (e : k ≡ j). rw (← e) (get_or-set_same (mixed k) k (signer_at xs k) no_signer (omega (arith, h, long k)) ∙
      sym (drawn-at (k + 1) k h (omega arith))))
      (λ (b : k < j). other j (λ e. lt_irrefl k (omega arith)) ∙ clear_at k j l a ∙ sym (clear_at (k + 1) j l (omega arith)))
      (eq-or-lt_of_le a)) (lt-or_ge j k))
    where
      is : length (set (mixed k) k (signer_at xs k)) ≡ length (mixed k)
      is = length-set (mixed k) k (signer_at xs k)

      other : (j : ℕ) → j ≢ k → signer_at (set (mixed k) k (signer_at xs k)) j ≡ signer_at (mixed k) j
      other j ne = get_or-set_other (mixed k) k j (signer_at xs k) no_signer ne

  -- a fact of each signer, cleared or not, is one of the mixed
  mixed-all : (P : Signer → Type 0) → P no_signer → ((j : ℕ) → P (signer_at xs j)) → ((j : ℕ) → P (clear (signer_at xs j))) → (k j : ℕ) →
      P (signer_at (mixed k) j)
  mixed-all P z a b k j = ⊎_elim
      (λ (l : j < length xs). ⊎_elim
      (λ (m : j < k). rw (drawn-at k j l m) (a j)) (λ (m : k ≤ j). rw (clear_at k j l m) (b j)) (lt-or_ge j k))
      (λ (l : length xs ≤ j). rw (get_or-eq_default (mixed k) no_signer {n = j} (omega (arith, l, long k))) z) (lt-or_ge j (length xs))

  sound-mixed : (k : ℕ) → Sound W (mixed k)
  sound-mixed k = record {
    sized = subst (λ (n : ℕ). Sized W n) (sym (long k)) s.sized;
    reserves = mixed-all (λ t. t.reserve ≤ t.cap) (omega arith) s.reserves s.reserves k;
    draws = mixed-all (λ t. t.drawn ≤ t.cap) (omega arith) s.draws (λ j. omega arith) k;
    claims = omega (arith, s.claims, fewer);
  }
    where
      fewer : sum_of claim (mixed k) ≤ sum_of claim xs
      fewer = rw (long k) (sum_mono (length xs) (λ j. claim (signer_at (mixed k) j)) (λ j. claim (signer_at xs j)) (λ j l. ⊎_elim
          (λ (m : j < k). rw (drawn-at k j l m) (omega arith)) (λ (m : k ≤ j). rw (clear_at k j l m) (omega arith)) (lt-or_ge j k)))

  grant_next : (k : ℕ) → k < length xs → Granted W (mixed k) k (signer_at xs k).drawn
  grant_next k h = record {
    opened = l;
    capped = rw (clear_at k k h (omega arith)) (omega (arith, s.draws k));
    covered = omega (
      arith,
      (sound-mixed (k + 1)).claims,
      (sound-mixed k).claims,
      ap (sum_of claim) (mixed-next k h),
      sum-set (mixed k) k (signer_at xs k) l claim,
      claims-are (mixed k),
      lack-split (mixed k) k l,
      drawn_claimed (mixed k),
      ap (λ (t : Signer). t.reserve) (clear_at k k h (omega arith)),
      ap (λ (t : Signer). t.drawn) (clear_at k k h (omega arith)),
    );
  }
    where
      l : k < length (mixed k)
      l = omega (arith, h, long k)

  drawn-again : (t : Signer) → drawing (clear t) t.drawn ≡ t
  drawn-again t = λ j. record { reserve = t.reserve; cap = t.cap; drawn = zero-add t.drawn j }

  after_next : (p : Pool) (k : ℕ) → k < length xs → p.signers ≡ mixed k → (after W p (draw_for k)).signers ≡ mixed (k + 1)
  after_next p k h e =
      let q = (signer_at xs k).drawn in
      let given : draw_of W p.signers k q ≡ gives (grant (mixed k) k q) =
      rw e (draw-gives W (mixed k) k q (sound-mixed k) (grant_next k h)) in
      ap (λ (p : Pool). p.signers) (after_granted W p k q (grant (mixed k) k q) given) ∙
      rw (e, clear_at k k h (omega arith), drawn-again (signer_at xs k)) (mixed-next k h)

  after-rest : (d k : ℕ) → k + d ≡ length xs → (p : Pool) → p.signers ≡ mixed k → (after_all W p (from draw_for k d)).signers ≡ xs
  unfolding from
  after-rest zero k e p m = m ∙ rw (← add-zero k, e) mixed-last
  after-rest (suc d) k e p m =
      rw (add-one k) at (after-rest d (k + 1) (omega (arith, e)) (after W p (draw_for k)) (after_next p k (omega (arith, e)) m))

  -- the records are opened themselves, and as many draws as signers lead back to them
  pub left-again :
      (open_of W xs ≡ gives (cleared xs)) × ((after_all W (record { signers = cleared xs; handed = [] }) (draws_of xs)).signers ≡ xs)
  left-again = (
    (opens_iff W xs).1 (sound-opens W xs s),
    rw (upto_from (length xs) draw_for) (after-rest (length xs) 0 (omega arith) (record { signers = cleared xs; handed = [] }) mixed-first),
  )
