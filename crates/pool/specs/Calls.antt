-- What one call does to a pool, by its outcome; and what all calls keep (02, order 9). Assumes nothing.
use Rattle.std.specs.Prelude.{ℕ, ◌+◌, ◌<◌, ◌≡◌, refl, List, [], ◌∷◌, ◌++◌, length}
use Rattle.std.proofs.Common.{sym, ◌∙◌, ap, subst, append-nil, le_of_eq, arith, length-set}
use Rattle.laws.specs.Lay.{lay-nothing, lay-whole}
use Rattle.laws.specs.Outcome.{Outcome, refused, gives}
use Rattle.pool.specs.Pool.{signer_at, drawn_by_all, cleared, drawing, Grant, grant, draw_of}
use Rattle.pool.specs.Sequences.{Call, draw, refill, Range, Pool, after, after_all, Consecutive}
use Rattle.pool.specs.Sound.{Sound}
use Rattle.pool.specs.Amounts.{sum-set, length-cleared, none-drawn}
use Rattle.pool.specs.Kept.{draw-given, kept_draw, kept_refill, refill-gives}

module _ (W : ℕ) (p : Pool) where
  -- ---- a call that is refused leaves the pool as it was
  pub after-refused : (i q k : ℕ) → draw_of W p.signers i q ≡ refused k → after W p (draw i q) ≡ p
  after-refused i q k e = rw e (λ j. record { signers = sym (lay-nothing p.signers) j; handed = append-nil p.handed j })

  -- ---- one that is granted, and a refill of sound records
  pub after_granted : (i q : ℕ) (g : Grant) → draw_of W p.signers i q ≡ gives g → after W p (draw i q) ≡ record {
    signers = (grant p.signers i q).signers;
    handed = p.handed ++ (record { start = drawn_by_all p.signers; words = q } ∷ []);
  }
  after_granted i q g e =
      let is = (draw-given W p.signers i q g e).2 in
      rw (e, is) (λ j. record {
        signers = lay-whole (grant p.signers i q).signers p.signers
            (le_of_eq (sym (length-set p.signers i (drawing (signer_at p.signers i) q)))) j;
        handed = p.handed ++ (record { start = drawn_by_all p.signers; words = q } ∷ []);
      })

  pub after-refill : Sound W p.signers → after W p refill ≡ record { signers = cleared p.signers; handed = [] }
  after-refill s = rw (refill-gives W p.signers s) (λ j. record {
    signers = lay-whole (cleared p.signers) p.signers (le_of_eq (sym (length-cleared p.signers))) j;
    handed = [];
  })

-- ---- what every call keeps
-- a range after those that end where it starts
module _ (r : Range) where
  pub consecutive_more : (a b : ℕ) (rs : List Range) → Consecutive a rs b → r.start ≡ b → Consecutive a (rs ++ (r ∷ [])) (b + r.words)
  consecutive_more a b [] c e = (e ∙ sym c, ap (λ (n : ℕ). n + r.words) c)
  consecutive_more a b (t ∷ rs) c e = (c.0, consecutive_more (a + t.words) b rs c.1 e)

-- sound records, and what went out are the words from 0 to what all have drawn
pub record SoundPool (W : ℕ) (p : Pool) : Type 0 where
  pub sound : Sound W p.signers
  pub row : Consecutive 0 p.handed (drawn_by_all p.signers)

module _ (W : ℕ) (p : Pool) where
  drawn_more : (i q : ℕ) → i < length p.signers → drawn_by_all (grant p.signers i q).signers ≡ drawn_by_all p.signers + q
  drawn_more i q h = omega (arith, sum-set p.signers i (drawing (signer_at p.signers i) q) h (λ s. s.drawn))

  pub sound-after : (c : Call) → SoundPool W p → SoundPool W (after W p c)
  sound-after refill g = subst (SoundPool W) (sym (after-refill W p g.sound)) (record {
    sound = kept_refill W p.signers g.sound;
    row = sym (none-drawn p.signers);
  })
  sound-after (draw i q) g = by (draw_of W p.signers i q) refl
    where
      next : Range
      next = record { start = drawn_by_all p.signers; words = q }

      by : (o : Outcome Grant) → draw_of W p.signers i q ≡ o → SoundPool W (after W p (draw i q))
      by (refused k) e = subst (SoundPool W) (sym (after-refused W p i q k e)) g
      by (gives t) e =
          let d = draw-given W p.signers i q t e in
          subst (SoundPool W) (sym (after_granted W p i q t e)) (record {
            sound = kept_draw W p.signers i q d.0 d.1;
            row = subst (Consecutive 0 (p.handed ++ (next ∷ []))) (sym (drawn_more i q d.1.opened))
                (consecutive_more next 0 (drawn_by_all p.signers) p.handed g.row refl);
          })

-- a fact that each call keeps
pub kept_all : (W : ℕ) (P : Pool → Type 0) → ((p : Pool) (c : Call) → P p → P (after W p c)) → (cs : List Call) (p : Pool) → P p →
    P (after_all W p cs)
kept_all W P f [] p a = a
kept_all W P f (c ∷ cs) p a = kept_all W P f cs (after W p c) (f p c a)
