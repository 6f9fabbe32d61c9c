-- A draw that is granted, an opening and a refill leave sound records (02, order 9). Assumes nothing.
use Rattle.std.specs.Prelude.{ℕ, ◌+◌, ◌-◌, ◌≤◌, ◌<◌, ◌≡◌, List, leb, ltb, length, set}
use Rattle.std.proofs.Math.Path.{sym}
use Rattle.std.proofs.Common.{◌∙◌, subst, ⊎_elim, arith, length-set}
use borrow.Author.Tests.{le-ltb, lt-leb, leb-false, ltb-false}
use Rattle.laws.specs.Sums.{sum_mono}
use Rattle.laws.specs.Lists.{all_set}
use Rattle.laws.specs.Outcome.{refused, gives, passed, then-gives, gives_inj, no_result}
use Rattle.pool.specs.Pool.{no_signer, signer_at, claim, left, others_lack}
use Rattle.pool.specs.Pool.{clear, cleared, drawing, open_of, records_of, Grant, grant, draw_of, refill_of}
use Rattle.pool.specs.Sound.{Sized, Sound, Opens, sound_iff, opens_iff, opens-or, sound-opens, drawn_claimed}
use Rattle.pool.specs.Amounts.{sum-set, claims-are, lack-split, cleared_at, length-cleared, sum-cleared}
use Rattle.pool.specs.declared.signers.Signer.{Signer}

-- ---- what a draw asks, and gives
-- the signer is opened and stays within its cap, and the words left after it cover what the others lack
pub record Granted (W : ℕ) (xs : List Signer) (i q : ℕ) : Type 0 where
  pub opened : i < length xs
  pub capped : (signer_at xs i).drawn + q ≤ (signer_at xs i).cap
  pub covered : others_lack xs i + q ≤ left W xs

module _ (W : ℕ) (xs : List Signer) where
  module _ (i q : ℕ) where
    pub draw-gives : Sound W xs → Granted W xs i q → draw_of W xs i q ≡ gives (grant xs i q)
    unfolding draw_of
    draw-gives s g = rw (
      (sound_iff W xs).1 s,
      lt-leb (length xs) i g.opened,
      le-ltb (signer_at xs i).cap ((signer_at xs i).drawn + q) g.capped,
      le-ltb (left W xs) q (omega (arith, g.covered)),
      le-ltb (left W xs - q) (others_lack xs i) (omega (arith, g.covered)),
    )

    pub draw-given : (g : Grant) → draw_of W xs i q ≡ gives g → Sound W xs × Granted W xs i q × (g ≡ grant xs i q)
    unfolding draw_of
    draw-given g e =
        let a = then-gives (records_of W xs) _ g e in
        let b = passed 17 (leb (length xs) i) _ g a.1 in
        let c = passed 18 (ltb (signer_at xs i).cap ((signer_at xs i).drawn + q)) _ g b.1 in
        let d = passed 19 (ltb (left W xs) q) _ g c.1 in
        let f = passed 19 (ltb (left W xs - q) (others_lack xs i)) _ g d.1 in (
          (sound_iff W xs).0 a.0,
          record {
            opened = leb-false (length xs) i b.0;
            capped = ltb-false _ _ c.0;
            covered = omega (arith, ltb-false (left W xs) q d.0, ltb-false (left W xs - q) (others_lack xs i) f.0);
          },
          sym (gives_inj f.1),
        )

    -- ---- sound records stay so
    pub kept_draw : Sound W xs → Granted W xs i q → Sound W (set xs i (drawing (signer_at xs i) q))
    kept_draw s g = record {
      sized = subst (λ (n : ℕ). Sized W n) (sym (length-set xs i (drawing (signer_at xs i) q))) s.sized;
      reserves = all_set (λ t. t.reserve ≤ t.cap) no_signer xs i (drawing (signer_at xs i) q) s.reserves (s.reserves i);
      draws = all_set (λ t. t.drawn ≤ t.cap) no_signer xs i (drawing (signer_at xs i) q) s.draws g.capped;
      claims = omega (
        arith,
        s.claims,
        g.covered,
        drawn_claimed xs,
        claims-are xs,
        lack-split xs i g.opened,
        sum-set xs i (drawing (signer_at xs i) q) g.opened claim,
      );
    }

  -- cleared records are sound where they open
  kept_cleared : Opens W xs → Sound W (cleared xs)
  kept_cleared o = record {
    sized = subst (λ (n : ℕ). Sized W n) (sym (length-cleared xs)) o.sized;
    reserves = λ j. rw (cleared_at xs j) (o.reserves j);
    draws = λ j. rw (cleared_at xs j) (omega arith);
    claims = omega (
      arith,
      o.together,
      sum-cleared xs claim,
      sum_mono (length xs) (λ j. claim (clear (signer_at xs j))) (λ j. (signer_at xs j).reserve) (λ j l. omega arith),
    );
  }

  pub kept_refill : Sound W xs → Sound W (cleared xs)
  kept_refill s = kept_cleared (sound-opens W xs s)

  -- an opening leaves cleared records, which are sound
  pub open_given : (ys : List Signer) → open_of W xs ≡ gives ys → (ys ≡ cleared xs) × Sound W ys
  open_given ys e = ⊎_elim
      (λ (o : open_of W xs ≡ gives (cleared xs)).
      let is = gives_inj (sym e ∙ o) in
      (is, subst (Sound W) (sym is) (kept_cleared ((opens_iff W xs).0 o))))
      (λ (o : open_of W xs ≡ refused 3). no_result 3 ys (sym o ∙ e)) (opens-or W xs)

  pub refill-gives : Sound W xs → refill_of W xs ≡ gives (cleared xs)
  unfolding refill_of
  refill-gives s = rw ((sound_iff W xs).1 s)
