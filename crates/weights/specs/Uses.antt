-- 02, order 5: how a list of weights counts for each use, and what the use changes of what is built. Assumes nothing.
use Rattle.std.specs.Prelude.{ℕ, zero, suc, ◌+◌, ◌*◌, ◌^◌, ◌≤◌, ◌<◌, ◌≡◌, refl, Bool, true, false, List, [], ◌∷◌, map, ◌↔◌, ◌⊎◌, eqb, ltb}
use Rattle.std.specs.Prelude.{length, get_or}
use Rattle.std.proofs.Common.{sym, ap, ap₂, ◌∙◌, inr, ⊎_elim, arith, eq-eqb, ne_eqb, eqb-true}
use Rattle.std.proofs.Math.Path.{fun_ext}
use Rattle.std.proofs.lemmas.Bool.{eqb-false}
use Rattle.std.proofs.lemmas.List.{length-map}
use Rattle.std.proofs.Math.ListN.{get_or-map}
use Rattle.laws.specs.Sums.{sum_to, sum-front, sum_plus, sum-le, term_le}
use Rattle.laws.specs.Digits.{digit}
use Rattle.laws.specs.Outcome.{Outcome, gives, refuse, ◌>>◌, mapped, mapped-then}
use Rattle.fields.specs.Limits.{outside, most_columns}
use Rattle.files.specs.Matrix.{tabled, most_rows}
use Rattle.files.specs.Files.{matrix_file, file_length}
use Rattle.files.specs.Writing.{length-file}
use Rattle.weights.specs.Weights.{counted, sum, share, built, build_under, build_of}
use Rattle.weights.specs.Division.{share_double}
use Rattle.weights.specs.declared.building.Usage.{Usage}
use Rattle.weights.specs.declared.building.Usage.TheVariants.{Plain, Signed}

-- building in 01's way, for either use: m weights, each as it is
unfoldable pub build_each : ℕ → (ℕ → ℕ) → ℕ → ℕ → Outcome (List ℕ)
build_each m weight n room = do
  refuse 3 (outside most_rows m)
  refuse 3 (outside most_columns n)
  refuse 11 (eqb (sum_to m weight) 0)
  refuse 13 (ltb room (file_length m n))
  gives (matrix_file (tabled m n (λ v. digit n (share n (weight v) (sum_to m weight)))))

-- the weights of distances other than 0 doubled
unfoldable pub doubled : List ℕ → List ℕ
doubled [] = []
doubled (w ∷ ws) = w ∷ map (λ x. 2 * x) ws

-- ---- one weight, by the three cases
pub counted-plain : (v w : ℕ) (usage : Usage) → usage ≡ Plain → w ≡ counted usage v w
unfolding counted
counted-plain v w usage e = rw e

-- 0 counts once for either use
pub counted-zero : (v w : ℕ) (usage : Usage) → v ≡ 0 → w ≡ counted usage v w
unfolding counted
counted-zero v w usage e = rw e (once usage)
  where
    once : (usage : Usage) → w ≡ counted usage 0 w
    once Plain = refl
    once Signed = refl

-- a distance other than 0 counts for both signs
pub counted_twice : (v w : ℕ) (usage : Usage) → usage ≡ Signed → (v ≡ 0 → ⊥) → 2 * w ≡ counted usage v w
unfolding counted
counted_twice v w usage e ne = rw e (distance v ne)
  where
    distance : (v : ℕ) → (v ≡ 0 → ⊥) → 2 * w ≡ counted Signed v w
    distance zero ne = absurd (ne refl)
    distance (suc v) ne = refl

-- a weight counts at least once, and at most twice
counted-least : (usage : Usage) (v w : ℕ) → w ≤ counted usage v w
unfolding counted
counted-least Plain v w = omega arith
counted-least Signed zero w = omega arith
counted-least Signed (suc v) w = omega arith

counted_most : (usage : Usage) (v w : ℕ) → counted usage v w ≤ 2 * w
unfolding counted
counted_most Plain v w = omega arith
counted_most Signed zero w = omega arith
counted_most Signed (suc v) w = omega arith

-- so a weight of 32 bits counts as a number of 33 bits at most
pub counted-small : (usage : Usage) (v w r : ℕ) → r ≡ counted usage v w → w < 2 ^ 32 → r < 2 ^ 33
counted-small usage v w r e h = omega (arith, counted_most usage v w)

-- ---- S
-- twice as much of each is twice as much of all
sum_twice : (m : ℕ) (weight : ℕ → ℕ) → sum_to m (λ v. 2 * weight v) ≡ 2 * sum_to m weight
sum_twice m weight = omega (arith, sum_plus m (λ v. 2 * weight v) weight weight (λ v. omega arith))

-- for plain use w_0 + w_1 + ..
pub sum-plain : (w : ℕ) (ws : List ℕ) → sum Plain (w ∷ ws) ≡ w + sum Plain ws
unfolding sum counted
sum-plain w ws = sum-front (length ws) (λ v. get_or (w ∷ ws) v 0)

-- for signed use w_0 + 2 × (w_1 + w_2 + ..)
pub sum-signed : (w : ℕ) (ws : List ℕ) → sum Signed (w ∷ ws) ≡ w + 2 * sum Plain ws
unfolding sum counted
sum-signed w ws =
    sum-front (length ws) (λ v. counted Signed v (get_or (w ∷ ws) v 0)) ∙ ap (λ (s : ℕ). w + s) (sum_twice (length ws) (λ v. get_or ws v 0))

-- for either use S is 0 exactly where all weights are
pub weightless_iff : (usage : Usage) (ws : List ℕ) → (sum usage ws ≡ 0) ↔ ((v : ℕ) → v < length ws → get_or ws v 0 ≡ 0)
unfolding sum
weightless_iff usage ws = (
  (λ e v h.
      omega (arith, term_le (length ws) v (λ v. counted usage v (get_or ws v 0)) h, counted-least usage v (get_or ws v 0))),
  (λ e.
      let none : (v : ℕ) → v < length ws → counted usage v (get_or ws v 0) ≤ 0 =
      λ v h. omega (arith, counted_most usage v (get_or ws v 0), e v h) in
      omega (arith, sum-le (length ws) 0 (λ v. counted usage v (get_or ws v 0)) none)),
)

-- ---- what is built
-- for each use every weight is taken as it counts
build_counted : (usage : Usage) (ws : List ℕ) (n room : ℕ) →
    build_of usage ws n room ≡ build_each (length ws) (λ v. counted usage v (get_or ws v 0)) n room
unfolding build_under built sum build_each
build_counted usage ws n room = refl

-- plain lists are built as before
pub plain_as_before : (ws : List ℕ) (n room : ℕ) → build_of Plain ws n room ≡ build_each (length ws) (λ v. get_or ws v 0) n room
unfolding counted
plain_as_before ws n room = build_counted Plain ws n room

doubled-counts : (ws : List ℕ) (v : ℕ) → counted Signed v (get_or ws v 0) ≡ get_or (doubled ws) v 0
unfolding counted doubled
doubled-counts [] zero = refl
doubled-counts [] (suc v) = refl
doubled-counts (w ∷ ws) zero = refl
doubled-counts (w ∷ ws) (suc v) = sym (get_or-map (λ x. 2 * x) ws v 0)

length-doubled : (ws : List ℕ) → length ws ≡ length (doubled ws)
unfolding doubled
length-doubled [] = refl
length-doubled (w ∷ ws) = ap suc (sym (length-map ws (λ x. 2 * x)))

-- for signed use a list is built as `doubled` of it is for plain use
pub signed-doubled : (ws : List ℕ) (n room : ℕ) → build_of Signed ws n room ≡ build_of Plain (doubled ws) n room
signed-doubled ws n room =
    build_counted Signed ws n room ∙
    (ap₂ (λ m weight. build_each m weight n room) (length-doubled ws) (fun_ext (doubled-counts ws)) ∙
    sym (plain_as_before (doubled ws) n room))

-- ---- what the use does not change
-- doubling all weights changes nothing of what is built
doubled-each : (m : ℕ) (weight : ℕ → ℕ) (n room : ℕ) → build_each m (λ v. 2 * weight v) n room ≡ build_each m weight n room
unfolding build_each
doubled-each m weight n room = go (eqb (sum_to m weight) 0) refl
  where
    -- where 11 does not apply
    past : (ℕ → ℕ → ℕ) → Outcome (List ℕ)
    past bits =
        refuse 3 (outside most_rows m) >>
        (refuse 3 (outside most_columns n) >> (refuse 13 (ltb room (file_length m n)) >> gives (matrix_file (tabled m n bits))))

    go : (b : Bool) → eqb (sum_to m weight) 0 ≡ b → build_each m (λ v. 2 * weight v) n room ≡ build_each m weight n room
    go true e =
        let z = eqb-true (sum_to m weight) 0 e in
        rw (sum_twice m weight, e, eq-eqb (2 * sum_to m weight) 0 (omega (arith, z)))
    go false e =
        let z = eqb-false (sum_to m weight) 0 e in
        let some : 0 < sum_to m weight = omega (arith, z) in
        let same : (v : ℕ) → digit n (share n (2 * weight v) (2 * sum_to m weight)) ≡ digit n (share n (weight v) (sum_to m weight)) =
        λ v. ap (digit n) (share_double n (weight v) (sum_to m weight) some) in
        rw (sum_twice m weight, e, ne_eqb (2 * sum_to m weight) 0 (λ q. omega (arith, some))) (ap past (fun_ext same))

-- where 0 has no weight, or no other distance has one, both uses build the same
pub both_alike : (ws : List ℕ) (n room : ℕ) → (get_or ws 0 0 ≡ 0) ⊎ ((v : ℕ) → get_or ws (suc v) 0 ≡ 0) →
    build_of Signed ws n room ≡ build_of Plain ws n room
unfolding counted
both_alike ws n room =
    ⊎_elim
    (λ (z : get_or ws 0 0 ≡ 0).
    build_counted Signed ws n room ∙
    (ap (λ (weight : ℕ → ℕ). build_each (length ws) weight n room) (fun_ext (twice z)) ∙
    (doubled-each (length ws) (λ v. get_or ws v 0) n room ∙ sym (plain_as_before ws n room))))
    (λ (z : (v : ℕ) → get_or ws (suc v) 0 ≡ 0).
    build_counted Signed ws n room ∙
    (ap (λ (weight : ℕ → ℕ). build_each (length ws) weight n room) (fun_ext (once z)) ∙ sym (plain_as_before ws n room)))
  where
    twice : get_or ws 0 0 ≡ 0 → (v : ℕ) → counted Signed v (get_or ws v 0) ≡ 2 * get_or ws v 0
    twice z zero = omega (arith, z)
    twice z (suc v) = refl

    once : ((v : ℕ) → get_or ws (suc v) 0 ≡ 0) → (v : ℕ) → counted Signed v (get_or ws v 0) ≡ get_or ws v 0
    once z zero = refl
    once z (suc v) = omega (arith, z v)

-- so a list of one weight is built the same for both uses
pub one_weight : (w n room : ℕ) → build_of Signed (w ∷ []) n room ≡ build_of Plain (w ∷ []) n room
one_weight w n room = both_alike (w ∷ []) n room (inr (λ v. refl))

-- what is answered: the length, or a refusal
answer : (usage : Usage) (ws : List ℕ) (n room : ℕ) → mapped length (build_of usage ws n room) ≡
    (refuse 3 (outside most_rows (length ws)) >>
    (refuse 3 (outside most_columns n) >>
    (refuse 11 (eqb (sum usage ws) 0) >>
    (refuse 13 (ltb room (file_length (length ws) n)) >> gives (file_length (length ws) n)))))
unfolding build_under built
answer usage ws n room =
    sym
    (mapped-then (refuse 3 (outside most_rows (length ws))) _ _ length
    (mapped-then (refuse 3 (outside most_columns n)) _ _ length
    (mapped-then (refuse 11 (eqb (sum usage ws) 0)) _ _ length
    (mapped-then (refuse 13 (ltb room (file_length (length ws) n))) _ _ length (ap gives (sym (length-file (built usage ws n))))))))

-- it is the same for both uses
pub answers_alike : (usage usage' : Usage) (ws : List ℕ) (n room : ℕ) →
    mapped length (build_of usage ws n room) ≡ mapped length (build_of usage' ws n room)
answers_alike usage usage' ws n room =
    answer usage ws n room ∙ rw (weightless (eqb (sum usage' ws) 0) refl) (sym (answer usage' ws n room))
  where
    weightless : (b : Bool) → eqb (sum usage' ws) 0 ≡ b → eqb (sum usage ws) 0 ≡ b
    weightless true e = eq-eqb (sum usage ws) 0 ((weightless_iff usage ws).1 ((weightless_iff usage' ws).0 (eqb-true (sum usage' ws) 0 e)))
    weightless false e =
        ne_eqb (sum usage ws) 0
        (λ z. eqb-false (sum usage' ws) 0 e ((weightless_iff usage' ws).1 ((weightless_iff usage ws).0 z)))
