-- The checks of the code are those of the definitions (02, order 9). Assumes nothing.
use Rattle.std.specs.Prelude.{ℕ, ◌+◌, ◌-◌, ◌≤◌, ◌<◌, ◌≡◌, refl, Bool, true, false, ◌||◌, List, ltb, set}
use Rattle.std.proofs.Common.{sym, ◌∙◌, ap, ⊎_elim, le_of_eq, arith, length-set}
use borrow.Author.Tests.{le-leb, lt-leb, lt-ltb, le-ltb, ltb-false}
use Rattle.std.proofs.Math.ListN.{length}
use Rattle.laws.specs.Tests.{lt-or_ge}
use Rattle.laws.specs.Lay.{lay, lay-whole}
use Rattle.laws.specs.Outcome.{Outcome, refused, gives, refuse, ◌>>◌, laid, mapped, mapped-gives, mapped-refused, ends-given}
use Rattle.pool.specs.Pool.{sizes_unfit, signer_at, lack, some_of, reserve_above, drawn_above, drawn_by_all, left, others_lack}
use Rattle.pool.specs.Pool.{cleared, drawing, open_of, records_of, Grant, grant, draw_of, refill_of}
use Rattle.pool.specs.Sound.{sound_iff, drawn_claimed}
use Rattle.pool.specs.Amounts.{claims-are, lack-split, length-cleared}
use Rattle.pool.specs.Kept.{open_given, draw-gives}
use Rattle.pool.specs.Scan.{sums_of}
use Rattle.pool.specs.declared.signers.Signer.{Signer}
use Rattle.pool.specs.declared.signers.Sums.{Sums}

-- a check's answer, with what it found for its result
module _ {A : Type 0} (x : A) (o : Outcome (Unit {0})) where
  found : (a : A) → gives a ≡ mapped (λ u. x) o → (o ≡ gives tt) × (x ≡ a)
  found a e = let m = mapped-gives (λ u. x) o a e in (m.1, m.2)

module _ (W : ℕ) (xs : List Signer) where
  -- ---- sizes first, then the sums
  abbrev pub sizes : Outcome (Unit {0})
  sizes = refuse 3 (sizes_unfit W (length xs))

  pub opens_unfit : (n : ℕ) → refused n ≡ mapped (λ u. sums_of xs) sizes → refused n ≡ mapped (λ ys. tt {0}) (open_of W xs)
  unfolding open_of
  opens_unfit n e = rw (mapped-refused (λ u. sums_of xs) sizes n e)

  pub stands_unfit : (n : ℕ) → refused n ≡ mapped (λ u. sums_of xs) sizes → refused n ≡ mapped (λ u. sums_of xs) (records_of W xs)
  unfolding records_of
  stands_unfit n e = rw (mapped-refused (λ u. sums_of xs) sizes n e)

  module _ (a : Sums) (e : gives a ≡ mapped (λ u. sums_of xs) sizes) where
    pub opens_when : mapped (λ ys. tt {0}) (open_of W xs) ≡ refuse 3 (a.above || ltb W a.reserved)
    unfolding open_of
    opens_when = rw ((found (sums_of xs) sizes a e).0, sym (found (sums_of xs) sizes a e).1) (two (some_of reserve_above xs) _)
      where
        two : (b c : Bool) → mapped (λ ys. tt {0}) (refuse 3 b >> (refuse 3 c >> gives (cleared xs))) ≡ refuse 3 (b || c)
        two true c = refl
        two false true = refl
        two false false = refl

    pub stands_when : mapped (λ u. sums_of xs) (records_of W xs) ≡ mapped (λ u. a) (refuse 3 ((a.above || a.over) || ltb W a.claimed))
    unfolding records_of
    stands_when = rw ((found (sums_of xs) sizes a e).0, sym (found (sums_of xs) sizes a e).1)
        (three (some_of reserve_above xs) (some_of drawn_above xs) _)
      where
        three : (b c d : Bool) → mapped (λ u. sums_of xs) (refuse 3 b >> (refuse 3 c >> (refuse 3 d >> gives (tt {0})))) ≡
            mapped (λ u. sums_of xs) (refuse 3 ((b || c) || d))
        three true c d = refl
        three false true d = refl
        three false false true = refl
        three false false false = refl

  -- ---- how the calls go on
  pub open_clears : gives (tt {0}) ≡ mapped (λ ys. tt {0}) (open_of W xs) → open_of W xs ≡ gives (cleared xs)
  open_clears e = let a = mapped-gives (λ ys. tt {0}) (open_of W xs) tt e in a.1 ∙ ap gives (open_given W xs a.0 a.1).0

  pub refill_refused : (n : ℕ) → refused n ≡ mapped (λ u. sums_of xs) (records_of W xs) → refill_of W xs ≡ refused n
  unfolding refill_of
  refill_refused n e = rw (mapped-refused (λ u. sums_of xs) (records_of W xs) n e)

  pub draw_refused : (i q n : ℕ) → refused n ≡ mapped (λ u. sums_of xs) (records_of W xs) → draw_of W xs i q ≡ refused n
  unfolding draw_of
  draw_refused i q n e = rw (mapped-refused (λ u. sums_of xs) (records_of W xs) n e)

  -- ---- records that stand, and their sums
  module _ (a : Sums) (e : gives a ≡ mapped (λ u. sums_of xs) (records_of W xs)) where
    stand : records_of W xs ≡ gives tt
    stand = (found (sums_of xs) (records_of W xs) a e).0

    sums : sums_of xs ≡ a
    sums = (found (sums_of xs) (records_of W xs) a e).1

    pub drawn_is : a.drawn ≡ drawn_by_all xs
    drawn_is = ap (λ (s : Sums). s.drawn) (sym sums)

    pub refill_clears : refill_of W xs ≡ gives (cleared xs)
    unfolding refill_of
    refill_clears = rw stand

    -- what is claimed is inside W, and what was drawn is part of it
    pub inside : (a.drawn ≤ a.claimed) × (a.claimed ≤ W) × (W ≤ 65536)
    inside = let s = (sound_iff W xs).0 stand in rw (sym sums) (drawn_claimed xs, s.claims, s.sized.words)

    module _ (i q : ℕ) where
      pub draw_unopened : length xs ≤ i → draw_of W xs i q ≡ refused 17
      unfolding draw_of
      draw_unopened h = rw (stand, le-leb (length xs) i h)

      module _ (h : i < length xs) where
        -- what the others lack is what all claim and have not drawn, but for what the signer itself lacks
        pub others_are : others_lack xs i + lack (signer_at xs i) + a.drawn ≡ a.claimed
        others_are = rw (sym sums) (omega (arith, claims-are xs, lack-split xs i h))

        pub draw_above : ltb (signer_at xs i).cap ((signer_at xs i).drawn + q) ≡ true → draw_of W xs i q ≡ refused 18
        unfolding draw_of
        draw_above c = rw (stand, lt-leb (length xs) i h, c)

        module _ (c : ltb (signer_at xs i).cap ((signer_at xs i).drawn + q) ≡ false) where
          pub draw_short : W < a.drawn + q + others_lack xs i → draw_of W xs i q ≡ refused 19
          unfolding draw_of
          draw_short l = rw (stand, lt-leb (length xs) i h, c) (⊎_elim
              (λ (k : left W xs < q). rw (lt-ltb (left W xs) q k))
              (λ (k : q ≤ left W xs).
              rw (le-ltb (left W xs) q k, lt-ltb (left W xs - q) (others_lack xs i) (omega (arith, inside, drawn_is))))
              (lt-or_ge (left W xs) q))

          pub draw_granted : a.drawn + q + others_lack xs i ≤ W → draw_of W xs i q ≡ gives (grant xs i q)
          draw_granted l = draw-gives W xs i q ((sound_iff W xs).0 stand) (record {
            opened = h;
            capped = ltb-false _ _ c;
            covered = omega (arith, drawn_is);
          })

-- ---- how calls end that are not refused: records that fit are cleared, and a draw changes its signer's
pub clear_ends : (xs : List Signer) (o : Outcome (List Signer)) → o ≡ gives (cleared xs) →
    (gives (tt {0}) ≡ mapped (λ ys. tt {0}) o) × (cleared xs ≡ lay (laid (λ ys. ys) o) xs)
clear_ends xs o e = ends-given (λ ys. tt) (λ ys. ys) (cleared xs) tt o xs (cleared xs) e refl
    (sym (lay-whole (cleared xs) xs (le_of_eq (sym (length-cleared xs)))))

pub grant_ends : (xs : List Signer) (i q start : ℕ) (o : Outcome Grant) → o ≡ gives (grant xs i q) → start ≡ drawn_by_all xs →
    (gives start ≡ mapped (λ g. g.start) o) × (set xs i (drawing (signer_at xs i) q) ≡ lay (laid (λ g. g.signers) o) xs)
grant_ends xs i q start o e s = ends-given (λ g. g.start) (λ g. g.signers) (grant xs i q) start o xs _ e s
    (sym (lay-whole _ xs (le_of_eq (sym (length-set xs i _)))))
