-- The walk row by row and column by column: what is never hit, what a row that is hit is below, and which bits count. Assumes nothing.
use Rattle.std.specs.Prelude.{ℕ, zero, suc, ◌+◌, ◌-◌, ◌*◌, ◌≤◌, ◌<◌, ◌≡◌, refl, List, [], ◌∷◌, length}
use Rattle.std.proofs.Common.{ap, subst, arith}
use Rattle.std.proofs.Math.Path.{fun_ext}
use Rattle.walk.specs.Walk.{Drawn, hit, miss, Place, found, left, at, scan, then, walk}

-- ---- a row, in the code's words
pub at_pass : (b row d : ℕ) (go : ℕ → Place) → b < 2 → (b ≡ 1 → ⊥) → at b row d go ≡ go d
unfolding at
at_pass zero row d go l n = refl
at_pass (suc b) row d go l n = absurd (n (omega arith))

pub at-hit : (b row d : ℕ) (go : ℕ → Place) → b ≡ 1 → d ≡ 0 → at b row d go ≡ found row
unfolding at
at-hit b row d go e z = rw (e, z)

pub at-near : (b row d : ℕ) (go : ℕ → Place) → b ≡ 1 → (d ≡ 0 → ⊥) → at b row d go ≡ go (d - 1)
unfolding at
at-near b row zero go e n = absurd (n refl)
at-near zero row (suc d) go e n = absurd (omega arith)
at-near (suc b) row (suc d) go e n = ap go (omega arith)

-- ---- a column
-- the row that is scanned with r left
pub scan_turn : (column : ℕ → ℕ) (r d : ℕ) → 0 < r → scan column r d ≡ at (column (r - 1)) (r - 1) d (λ e. scan column (r - 1) e)
unfolding scan
scan_turn column zero d h = absurd (omega arith)
scan_turn column (suc r) d h =
    let e : suc r - 1 ≡ r = omega arith in
    rw e

-- ---- what a column leaves
-- a fact of a place holds if it holds wherever a row may be hit, and wherever a distance may be left
at-is : (Q : Place → Type 0) (b row d : ℕ) (go : ℕ → Place) → (0 < b → d ≡ 0 → Q (found row)) → ((e : ℕ) → d ≤ suc e → Q (go e)) →
    Q (at b row d go)
unfolding at
at-is Q zero row d go f g = g d (omega arith)
at-is Q (suc b) row zero go f g = f (omega arith) refl
at-is Q (suc b) row (suc d) go f g = g d (omega arith)

scan_is : (Q : Place → Type 0) (column : ℕ → ℕ) (r d : ℕ) → ((v : ℕ) → d + suc v ≤ r → 0 < column v → Q (found v)) →
    ((e : ℕ) → d ≤ r + e → Q (left e)) → Q (scan column r d)
unfolding scan
scan_is Q column zero d f g = g d (omega arith)
scan_is Q column (suc r) d f g =
    at-is Q (column r) r d (λ e. scan column r e) (λ p z. f r (omega arith) p)
    (λ e l. scan_is Q column r e (λ v h p. f v (omega arith) p) (λ x h. g x (omega arith)))

-- a row that is hit is below the rows scanned, and has a 1
abbrev pub Below : ℕ → Place → Type 0
Below r (found row) = row < r
Below r (left d) = Unit {0}

pub scan_below : (column : ℕ → ℕ) (r d : ℕ) → Below r (scan column r d)
scan_below column r d = scan_is (Below r) column r d (λ v h p. omega arith) (λ e h. tt)

abbrev Set : (ℕ → ℕ) → Place → Type 0
Set column (found row) = 0 < column row
Set column (left d) = Unit {0}

scan_set : (column : ℕ → ℕ) (r d : ℕ) → Set column (scan column r d)
scan_set column r d = scan_is (Set column) column r d (λ v h p. p) (λ e h. tt)

-- a distance that no row can bring to 0
abbrev Beyond : ℕ → Place → Type 0
Beyond x (found row) = ⊥
Beyond x (left d) = x ≤ d

scan_beyond : (column : ℕ → ℕ) (r d x : ℕ) → x + r ≤ d → Beyond x (scan column r d)
scan_beyond column r d x l = scan_is (Beyond x) column r d (λ v h p. omega arith) (λ e h. omega arith)

-- ---- a distance of m or more left after a column can never hit later, whatever the bits (01, "Misreadings to shut out")
then_beyond : (c x : ℕ) (o : Place) (go : ℕ → Drawn) → Beyond x o → ((e : ℕ) → x ≤ e → go e ≡ miss) → then c o go ≡ miss
unfolding then
then_beyond c x (found row) go h f = absurd h
then_beyond c x (left d) go h f = f d h

pub far : (bit : ℕ → ℕ → ℕ) (m c d : ℕ) (bs : List ℕ) → m ≤ d → walk bit m c d bs ≡ miss
unfolding walk
far bit m c d [] h = refl
far bit m c d (b ∷ bs) h =
    then_beyond c m (scan (λ v. bit v c) m (2 * d + b)) (λ e. walk bit m (suc c) e bs)
    (scan_beyond (λ v. bit v c) m (2 * d + b) m (omega arith)) (λ e q. far bit m (suc c) e bs q)

-- ---- a hit lies in one of the m rows and in a column from a up to b, where the row has a 1
abbrev pub Inside : (ℕ → ℕ → ℕ) → ℕ → ℕ → ℕ → Drawn → Type 0
Inside bit m a b (hit row column) = (row < m) × (a ≤ column) × (column < b) × (0 < bit row column)
Inside bit m a b miss = Unit {0}

inside-from : (bit : ℕ → ℕ → ℕ) (m c b : ℕ) (r : Drawn) → Inside bit m (suc c) b r → Inside bit m c b r
inside-from bit m c b (hit row column) h = (h.0, omega arith, h.2, h.3)
inside-from bit m c b miss h = tt

then-inside : (bit : ℕ → ℕ → ℕ) (m c b : ℕ) (o : Place) (go : ℕ → Drawn) → c < b → Below m o → Set (λ v. bit v c) o →
    ((e : ℕ) → Inside bit m (suc c) b (go e)) → Inside bit m c b (then c o go)
unfolding then
then-inside bit m c b (found row) go l h p f = (h, omega arith, l, p)
then-inside bit m c b (left d) go l h p f = inside-from bit m c b (go d) (f d)

pub walk_inside : (bit : ℕ → ℕ → ℕ) (m c d : ℕ) (bs : List ℕ) → Inside bit m c (c + length bs) (walk bit m c d bs)
unfolding walk
walk_inside bit m c d [] = tt
walk_inside bit m c d (b ∷ bs) =
    let e : suc c + length bs ≡ c + suc (length bs) = omega arith in
    let column : ℕ → ℕ = λ v. bit v c in
    then-inside bit m c (c + suc (length bs)) (scan column m (2 * d + b)) (λ x. walk bit m (suc c) x bs) (omega arith)
    (scan_below column m (2 * d + b)) (scan_set column m (2 * d + b))
    (λ x. subst (λ (k : ℕ). Inside bit m (suc c) k (walk bit m (suc c) x bs)) e (walk_inside bit m (suc c) x bs))

-- ---- only the bits of the m rows and of the columns walked count
pub scan_eq : (f g : ℕ → ℕ) (r d : ℕ) → ((v : ℕ) → v < r → f v ≡ g v) → scan f r d ≡ scan g r d
unfolding scan
scan_eq f g zero d e = refl
scan_eq f g (suc r) d e =
    rw (e r (omega arith)) (ap (at (g r) r d) (fun_ext (λ x. scan_eq f g r x (λ v l. e v (omega arith)))))

pub walk_eq : (f g : ℕ → ℕ → ℕ) (m c d : ℕ) (bs : List ℕ) → ((v i : ℕ) → v < m → c ≤ i → i < c + length bs → f v i ≡ g v i) →
    walk f m c d bs ≡ walk g m c d bs
unfolding walk
walk_eq f g m c d [] e = refl
walk_eq f g m c d (b ∷ bs) e =
    rw (scan_eq (λ v. f v c) (λ v. g v c) m (2 * d + b) (λ v l. e v c l (omega arith) (omega arith)))
    (ap (then c (scan (λ v. g v c) m (2 * d + b)))
    (fun_ext (λ x. walk_eq f g m (suc c) x bs (λ v i l a k. e v i l (omega arith) (omega arith)))))
