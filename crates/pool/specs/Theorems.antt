-- 02, order 9: what holds in every sequence of draws and refills from an opening on, granted or refused. Assumes nothing.
use Rattle.std.specs.Prelude.{ℕ, ◌+◌, ◌-◌, ◌≤◌, ◌<◌, ◌≡◌, refl, Bool, true, false, ◌&&◌, List, [], ◌∷◌, ◌↔◌, leb, ltb, length}
use Rattle.std.proofs.Common.{sym, ◌∙◌, ap, subst, ⊎_elim, le_of_eq, arith, le-leb, lt-ltb, le-ltb}
use Rattle.std.proofs.lemmas.Bool.{lt-leb}
use Rattle.std.proofs.Math.Seq.{map-set_same}
use Rattle.laws.specs.Tests.{lt-or_ge}
use Rattle.laws.specs.Lists.{Each}
use Rattle.laws.specs.Lay.{lay, lay-nothing, lay-whole}
use Rattle.laws.specs.Outcome.{Outcome, refused, gives, refuse, ◌>>◌, laid, no_result, refused_inj}
use Rattle.pool.specs.Pool.{no_signer, signer_at, drawn_by_all, left, others_lack, clear, cleared, drawing}
use Rattle.pool.specs.Pool.{open_of, records_of, Grant, grant, draw_of, refill_of}
use Rattle.pool.specs.Sequences.{Call, draw, refill, Range, Pool, after, after_all, Reached, Left, draws_of, Consecutive, one_where}
use Rattle.pool.specs.Sequences.{times}
use Rattle.pool.specs.Sound.{Sound, Opens, sound_iff, sound-or, opens_iff, opens-or, drawn_claimed}
use Rattle.pool.specs.Amounts.{claims-are, lack-split, cleared_at, length-cleared, none-drawn}
use Rattle.pool.specs.Kept.{Granted, draw-gives, draw-given, open_given}
use Rattle.pool.specs.Calls.{SoundPool, sound-after, kept_all, after-refused, after_granted, after-refill}
use Rattle.pool.specs.Left.{left-again}
use Rattle.pool.specs.declared.signers.Signer.{Signer}

-- ---- a refused call leaves the records as they were: the contracts of the three operations have this form
pub refused_leaves : {A : Type 0} (f : A → List Signer) (o : Outcome A) (k : ℕ) (xs : List Signer) → o ≡ refused k → lay (laid f o) xs ≡ xs
refused_leaves f o k xs e = rw e (sym (lay-nothing xs))

-- ---- an opening is 3 exactly for a list that does not open, and otherwise leaves the records in which nobody has drawn
pub open_three_iff : (W : ℕ) (xs : List Signer) → (open_of W xs ≡ refused 3) ↔ (Opens W xs → ⊥)
open_three_iff W xs = (
  (λ e o. no_result 3 (cleared xs) (sym e ∙ (opens_iff W xs).1 o)),
  (λ n. ⊎_elim (λ e. absurd (n ((opens_iff W xs).0 e))) (λ e. e) (opens-or W xs)),
)

pub open_leaves : (W : ℕ) (xs ys : List Signer) → open_of W xs ≡ gives ys →
    (lay (laid (λ ys. ys) (open_of W xs)) xs ≡ cleared xs) × (ys ≡ cleared xs) × ((j : ℕ) → (signer_at (cleared xs) j).drawn ≡ 0)
open_leaves W xs ys e =
    let is = (open_given W xs ys e).0 in (
      rw (e, is) (lay-whole (cleared xs) xs (le_of_eq (sym (length-cleared xs)))),
      is,
      (λ j. ap (λ (s : Signer). s.drawn) (cleared_at xs j)),
    )

refill_three : (W : ℕ) (xs : List Signer) → records_of W xs ≡ refused 3 → refill_of W xs ≡ refused 3
unfolding refill_of
refill_three W xs e = rw e

-- what comes after the records' check is never 3
no_three : {A : Type 0} (a b c d : Bool) (x : A) →
    (refuse 17 a >> (refuse 18 b >> (refuse 19 c >> (refuse 19 d >> gives x)))) ≡ refused 3 → ⊥
no_three true b c d x e = absurd (omega (arith, refused_inj e))
no_three false true c d x e = absurd (omega (arith, refused_inj e))
no_three false false true d x e = absurd (omega (arith, refused_inj e))
no_three false false false true x e = absurd (omega (arith, refused_inj e))
no_three false false false false x e = no_result 3 x (sym e)

-- ---- where an opening and calls have come to
sound-pool : {W : ℕ} {p : Pool} → Reached W p → SoundPool W p
sound-pool {W} {p} r =
    let o = open_given W r.before r.opened r.opens in
    let first : Pool = record { signers = r.opened; handed = [] } in
    subst (SoundPool W) (sym r.is) (kept_all W (SoundPool W) (sound-after W) r.calls first (record {
      sound = o.1;
      row = sym (ap drawn_by_all o.0 ∙ none-drawn r.before);
    }))

module _ {W : ℕ} {p : Pool} (r : Reached W p) where
  -- what goes out between refills begins at 0, follows in order without a gap, and ends inside W
  pub in_order : Consecutive 0 p.handed (drawn_by_all p.signers) × (drawn_by_all p.signers ≤ W)
  in_order = ((sound-pool r).row, omega (arith, drawn_claimed p.signers, (sound-pool r).sound.claims))

  -- a refill leaves the records in which nobody has drawn, and the next words start at 0
  pub refill_leaves : (after W p refill ≡ record { signers = cleared p.signers; handed = [] }) ×
      ((j : ℕ) → (signer_at (cleared p.signers) j).drawn ≡ 0) × (drawn_by_all (cleared p.signers) ≡ 0)
  refill_leaves = (
    after-refill W p (sound-pool r).sound,
    (λ j. ap (λ (s : Signer). s.drawn) (cleared_at p.signers j)),
    none-drawn p.signers,
  )

  -- nobody exceeds a cap
  pub caps_kept : (j : ℕ) → (signer_at p.signers j).drawn ≤ (signer_at p.signers j).cap
  caps_kept = (sound-pool r).sound.draws

  -- a draw that keeps a signer within its reserve is granted
  pub reserve_granted : (i q : ℕ) → i < length p.signers → (signer_at p.signers i).drawn + q ≤ (signer_at p.signers i).reserve →
      draw_of W p.signers i q ≡ gives (grant p.signers i q)
  reserve_granted i q h l = draw-gives W p.signers i q (sound-pool r).sound (record {
    opened = h;
    capped = omega (arith, l, (sound-pool r).sound.reserves i);
    covered = omega (
      arith,
      l,
      (sound-pool r).sound.claims,
      drawn_claimed p.signers,
      claims-are p.signers,
      lack-split p.signers i h,
    );
  })

  -- a draw of 0 words is granted, and answers where the next words start
  pub nothing_granted : (i : ℕ) → i < length p.signers → draw_of W p.signers i 0 ≡ gives (grant p.signers i 0)
  nothing_granted i h = draw-gives W p.signers i 0 (sound-pool r).sound (record {
    opened = h;
    capped = omega (arith, (sound-pool r).sound.draws i);
    covered = omega (
      arith,
      (sound-pool r).sound.claims,
      drawn_claimed p.signers,
      claims-are p.signers,
      lack-split p.signers i h,
    );
  })

  -- a draw is granted exactly where the signer is opened and stays within its cap, and the words left after it cover what the others lack
  pub granted_iff : (i q : ℕ) → ((g : Grant) × (draw_of W p.signers i q ≡ gives g)) ↔ Granted W p.signers i q
  granted_iff i q = (
    (λ a. (draw-given W p.signers i q a.0 a.1).1),
    (λ a. (grant p.signers i q, draw-gives W p.signers i q (sound-pool r).sound a)),
  )

-- ---- no word goes out twice
-- a word between a and m, or between m and b, is one between a and b
joined : (w a m b : ℕ) → a ≤ m → m ≤ b →
    one_where (leb a w && ltb w m) + one_where (leb m w && ltb w b) ≡ one_where (leb a w && ltb w b)
joined w a m b h k = ⊎_elim
    (λ (l : w < a). rw (lt-leb a w l, lt-leb m w (omega arith)))
    (λ (l : a ≤ w). ⊎_elim
    (λ (n : w < m). rw (le-leb a w l, lt-ltb w m n, lt-leb m w n, lt-ltb w b (omega arith)))
    (λ (n : m ≤ w). rw (le-leb a w l, le-ltb w m n, le-leb m w n) (omega arith)) (lt-or_ge w m)) (lt-or_ge w a)

-- a word that is between a and b stands in one range, and any other in none
times_of : (w a b : ℕ) (rs : List Range) → Consecutive a rs b → (a ≤ b) × (times w rs ≡ one_where (leb a w && ltb w b))
times_of w a b [] c = (
  omega (arith, c),
  sym (⊎_elim
      (λ (l : w < a). rw (lt-leb a w l)) (λ (l : a ≤ w). rw (le-leb a w l, le-ltb w b (omega (arith, c, l)))) (lt-or_ge w a)),
)
times_of w a b (r ∷ rs) c =
    let rest = times_of w (a + r.words) b rs c.1 in
    (omega (arith, rest.0), rw (c.0, rest.1) (joined w a (a + r.words) b (omega arith) rest.0))

ends_in : (W a b : ℕ) (rs : List Range) → Consecutive a rs b → b ≤ W → Each (λ t. t.start + t.words ≤ W) rs
ends_in W a b [] c h = tt
ends_in W a b (t ∷ rs) c h = (
  omega (arith, c.0, h, (times_of 0 (a + t.words) b rs c.1).0),
  ends_in W (a + t.words) b rs c.1 h,
)

-- ---- what a call does not change
cleared_twice : (xs : List Signer) → cleared (cleared xs) ≡ cleared xs
cleared_twice [] = refl
cleared_twice (x ∷ xs) = ap (λ (l : List Signer). clear x ∷ l) (cleared_twice xs)

terms_after : (W : ℕ) (p : Pool) (c : Call) → cleared (after W p c).signers ≡ cleared p.signers
terms_after W p (draw i q) = by (draw_of W p.signers i q) refl
  where
    by : (o : Outcome Grant) → draw_of W p.signers i q ≡ o → cleared (after W p (draw i q)).signers ≡ cleared p.signers
    by (refused k) e = ap (λ (p : Pool). cleared p.signers) (after-refused W p i q k e)
    by (gives g) e = ap (λ (p : Pool). cleared p.signers) (after_granted W p i q g e) ∙
        map-set_same clear p.signers i (drawing (signer_at p.signers i) q) no_signer refl
terms_after W p refill = ⊎_elim
    (λ (s : Sound W p.signers). ap (λ (p : Pool). cleared p.signers) (after-refill W p s) ∙ cleared_twice p.signers)
    (λ (e : records_of W p.signers ≡ refused 3). ap cleared
    (refused_leaves (λ ys. ys) (refill_of W p.signers) 3 p.signers (refill_three W p.signers e)))
    (sound-or W p.signers)

module _ {W : ℕ} {p : Pool} (r : Reached W p) where
  -- since the opening or the last refill each word below what all have drawn has gone out once, and no other
  pub no_word_twice : (w : ℕ) → times w p.handed ≡ one_where (ltb w (drawn_by_all p.signers))
  no_word_twice w = rw (le-leb 0 w (omega arith)) at (times_of w 0 (drawn_by_all p.signers) p.handed (in_order r).0).1

  -- every range ends inside W
  pub all-inside : Each (λ t. t.start + t.words ≤ W) p.handed
  all-inside = ends_in W 0 (drawn_by_all p.signers) p.handed (in_order r).0 (in_order r).1

  -- but for what was drawn, the records are those that were opened
  pub terms_kept : cleared p.signers ≡ cleared r.before
  terms_kept =
      let o = (open_given W r.before r.opened r.opens).0 in
      let P : Pool → Type 0 = λ p. cleared p.signers ≡ cleared r.before in
      subst P (sym r.is) (kept_all W P (λ p c e. terms_after W p c ∙ e) r.calls (record { signers = r.opened; handed = [] })
      (ap cleared o ∙ cleared_twice r.before))

-- ---- 3 is answered exactly for records that no opening and calls leave
module _ (W : ℕ) (xs : List Signer) where
  pub left_iff : Left W xs ↔ (records_of W xs ≡ gives tt)
  left_iff = (
    (λ l. (sound_iff W xs).1 (subst (Sound W) l.are (sound-pool l.reached).sound)),
    (λ e. let a = left-again W xs ((sound_iff W xs).0 e) in record {
      pool = after_all W (record { signers = cleared xs; handed = [] }) (draws_of xs);
      reached = record { before = xs; opened = cleared xs; opens = a.0; calls = draws_of xs; is = refl };
      are = a.1;
    }),
  )

  -- those that pass are left by an opening and draws alone
  pub left_by_draws : records_of W xs ≡ gives tt →
      (open_of W xs ≡ gives (cleared xs)) × ((after_all W (record { signers = cleared xs; handed = [] }) (draws_of xs)).signers ≡ xs)
  left_by_draws e = left-again W xs ((sound_iff W xs).0 e)

  never-left : (Left W xs → ⊥) → records_of W xs ≡ refused 3
  never-left n = ⊎_elim (λ s. absurd (n (left_iff.1 ((sound_iff W xs).1 s)))) (λ e. e) (sound-or W xs)

  pub draw_three_iff : (i q : ℕ) → (draw_of W xs i q ≡ refused 3) ↔ (Left W xs → ⊥)
  unfolding draw_of
  draw_three_iff i q = (
    (λ e l. no_three (leb (length xs) i) (ltb (signer_at xs i).cap ((signer_at xs i).drawn + q)) (ltb (left W xs) q)
        (ltb (left W xs - q) (others_lack xs i)) (grant xs i q) (rw (left_iff.0 l) at e)),
    (λ n. rw (never-left n)),
  )

  pub refill_three_iff : (refill_of W xs ≡ refused 3) ↔ (Left W xs → ⊥)
  unfolding refill_of
  refill_three_iff = (
    (λ e l. no_result 3 (cleared xs) (sym (rw (left_iff.0 l) at e))),
    (λ n. rw (never-left n)),
  )
