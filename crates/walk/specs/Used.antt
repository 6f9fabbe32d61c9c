-- 02, order 1: what holds of the columns that a walk has used, for every number of rows and columns. Assumes nothing.
use Rattle.std.specs.Prelude.{ℕ, suc, ◌+◌, ◌-◌, ◌*◌, ◌≤◌, ◌<◌, ◌≡◌, refl, List, [], ◌∷◌, length, get_or}
use Rattle.std.proofs.Common.{sym, ap, ap₂, ◌∙◌, subst}
use native.Mathlib.Omega.{arith}
use Rattle.laws.specs.Tests.{never}
use Rattle.laws.specs.Lists.{upto, length-upto}
use Rattle.fields.specs.Fields.{bit_of, field_of}
use Rattle.files.specs.Matrix.{Matrix, bit}
use Rattle.walk.specs.Walk.{Drawn, hit, miss, Place, found, left, scan, then, walk, drawn, file_rows, draw_at, used, used_at}
use Rattle.walk.specs.Walk.{sample, missed, Spending, spending_of, is_miss}
use Rattle.walk.specs.Steps.{Inside, walk_inside}

-- ---- at least the first column, and at most all
module _ (bit : ℕ → ℕ → ℕ) (m : ℕ) where
  inside-some : (a b : ℕ) (r : Drawn) → a < b → Inside bit m a b r → a < used b r
  unfolding used
  inside-some a b (hit v c) h i = omega (arith, i.1)
  inside-some a b miss h i = h

  inside_most : (a b : ℕ) (r : Drawn) → Inside bit m a b r → used b r ≤ b
  unfolding used
  inside_most a b (hit v c) i = omega (arith, i.2)
  inside_most a b miss i = omega arith

  -- a walk from column c on, to column n
  inside : (c d n : ℕ) (s : List ℕ) → c + length s ≡ n → Inside bit m c n (walk bit m c d s)
  inside c d n s e = subst (λ (b : ℕ). Inside bit m c b (walk bit m c d s)) e (walk_inside bit m c d s)

  walk_some : (c d n : ℕ) (s : List ℕ) → c + length s ≡ n → c < n → c < used n (walk bit m c d s)
  walk_some c d n s e h = inside-some c n (walk bit m c d s) h (inside c d n s e)

  walk_most : (c d n : ℕ) (s : List ℕ) → c + length s ≡ n → used n (walk bit m c d s) ≤ n
  walk_most c d n s e = inside_most c n (walk bit m c d s) (inside c d n s e)

-- ---- no bit beyond those used
-- two strings from column c on have the same bits in the columns below u
abbrev Agree : ℕ → ℕ → List ℕ → List ℕ → Type 0
Agree c u s t = (i : ℕ) → c + i < u → get_or s i 0 ≡ get_or t i 0

then_unread : (n c : ℕ) (o : Place) (f g : ℕ → Drawn) (s t : List ℕ) →
    ((e : ℕ) → Agree (suc c) (used n (f e)) s t → g e ≡ f e) → Agree (suc c) (used n (then c o f)) s t → then c o g ≡ then c o f
unfolding then
then_unread n c (found row) f g s t k a = refl
then_unread n c (left e) f g s t k a = k e a

walk_unread : (bit : ℕ → ℕ → ℕ) (m c d n : ℕ) (s t : List ℕ) → c + length s ≡ n → length t ≡ length s →
    Agree c (used n (walk bit m c d s)) s t → walk bit m c d t ≡ walk bit m c d s
unfolding walk
walk_unread bit m c d n [] [] e l a = refl
walk_unread bit m c d n [] (y ∷ t) e l a = absurd (omega (arith, l))
walk_unread bit m c d n (x ∷ s) [] e l a = absurd (omega (arith, l))
walk_unread bit m c d n (x ∷ s) (y ∷ t) e l a =
    let first : x ≡ y = a 0 (omega (arith, walk_some bit m c d n (x ∷ s) e (omega (arith, e)))) in
    rw (← first)
    (then_unread n c (scan (λ v. bit v c) m (2 * d + x)) (λ z. walk bit m (suc c) z s) (λ z. walk bit m (suc c) z t) s t
    (λ z b. walk_unread bit m (suc c) z n s t (omega (arith, e)) (omega (arith, l)) b)
    (λ i h. a (suc i) (omega (arith, h))))

-- ---- the walk of a matrix
module _ (M : Matrix) (s : List ℕ) where
  -- between 1 and n
  pub drawn-used : 0 < length s → (1 ≤ used (length s) (drawn M s)) × (used (length s) (drawn M s) ≤ length s)
  unfolding drawn
  drawn-used h = (
    walk_some (bit M) M.rows 0 0 (length s) s (omega arith) h,
    walk_most (bit M) M.rows 0 0 (length s) s (omega arith),
  )

  -- two strings that agree on the bits that one of them has used draw the same row in the same column, or both miss
  pub drawn_unread : (t : List ℕ) → length t ≡ length s → ((i : ℕ) → i < used (length s) (drawn M s) → get_or s i 0 ≡ get_or t i 0) →
      drawn M t ≡ drawn M s
  unfolding drawn
  drawn_unread t l a = walk_unread (bit M) M.rows 0 0 (length s) s t (omega arith) l (λ i h. a i (omega (arith, h)))

-- ---- what is told of a walk says what it draws
-- a miss has used all columns
pub told_miss : (n : ℕ) (d : Drawn) (w : Spending) → spending_of n d ≡ w → w.answer ≡ missed → w.used ≡ n
unfolding used
told_miss n (hit v c) w e q = never (ap is_miss (ap (λ (x : Spending). x.answer) e ∙ q))
told_miss n miss w e q = sym (ap (λ (x : Spending). x.used) e)

-- of a hit, the columns used less one are the column in which the row is hit
pub told-hit : (n : ℕ) (d : Drawn) (w : Spending) (v : ℕ) → spending_of n d ≡ w → w.answer ≡ sample v → d ≡ hit v (w.used - 1)
unfolding used
told-hit n (hit u c) w v e q =
    let row : sample u ≡ sample v = ap (λ (x : Spending). x.answer) e ∙ q in
    ap₂ hit (cc) (omega (arith, ap (λ (x : Spending). x.used) e))
told-hit n miss w v e q = never (sym (ap is_miss (ap (λ (x : Spending). x.answer) e ∙ q)))

-- ---- the columns used, in the code's words
pub hit-used : (n v c : ℕ) (d : Drawn) → hit v c ≡ d → c + 1 ≡ used n d
unfolding used
hit-used n v c d e = rw (← e)

pub miss_used : (n : ℕ) (d : Drawn) → miss ≡ d → n ≡ used n d
unfolding used
miss_used n d e = rw (← e)

-- ---- the walk of the rows in a file, whatever its fields say
module _ (file strings : List ℕ) (at : ℕ) where
  abbrev rows : ℕ → ℕ → ℕ
  rows = file_rows file (field_of file 6)

  draw_at_inside : Inside rows (field_of file 4) 0 (field_of file 6) (draw_at file strings at)
  unfolding draw_at
  draw_at_inside =
      inside rows (field_of file 4) 0 0 (field_of file 6) (upto (field_of file 6) (bit_of strings at))
      (omega (arith, length-upto (field_of file 6) (bit_of strings at)))

  pub draw_at_column : (v c : ℕ) → hit v c ≡ draw_at file strings at → c < field_of file 6
  draw_at_column v c e = (rw (← e) at draw_at_inside).2

  pub used_at_most : used_at file strings at ≤ field_of file 6
  used_at_most = inside_most rows (field_of file 4) 0 (field_of file 6) (draw_at file strings at) draw_at_inside
