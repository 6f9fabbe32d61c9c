-- 02, order 2: how often a result comes up over all four strings and signs, and how often a lane misses. Assumes nothing.
use Rattle.std.specs.Prelude.{ℕ, ◌*◌, ◌-◌, ◌≤◌, ◌<◌, ◌≡◌, refl, Bool, true, false, cond, not, ◌&&◌, ◌||◌, List, map, ◌⊎◌, ℤ, pos, nat_abs}
use Rattle.std.specs.Prelude.{length}
use Rattle.std.proofs.Common.{sym, ◌∙◌, subst, inl, inr, ⊎_elim, arith}
use Rattle.std.proofs.Math.Path.{ap}
use Rattle.std.proofs.Math.Bool.{or-true}
use Rattle.laws.specs.Lists.{Each, each_map, each_more, get_d_upto}
use Rattle.laws.specs.Outcome.{Outcome, gives, mapped, ◌>>=◌}
use Rattle.walk.specs.Strings.{over, over-eq, over-all, over-map, one_if, count, count-both}
use Rattle.lanes.specs.Slicing.{lanes}
use Rattle.combining.specs.Integers.{same_z, same_z_so, same_z_other}
use Rattle.combining.specs.Combination.{most_multiplier, combination, combined_miss, is_signed_miss, any_miss, result_of, result_at}
use Rattle.combining.specs.Combination.{is_sample}
use Rattle.combining.specs.Combination.{entry, Samples, sample-is, some_miss, all-hit, result_miss, value_hits}
use Rattle.combining.specs.Combining.{unfit, combine_of}
use Rattle.combining.specs.Reading.{samples_combined}
use Rattle.engine.specs.Choices.{Four, four, fours, often, four_count, fours-map, each-fours, length-fours, count-all}
use Rattle.engine.specs.Values.{values_to, value_once, values-small}
use Rattle.engine.specs.Parts.{Pick, same_pick, Picked, picks, picks-each, picks-many, picks_once, Table, Chosen, Part, entry_of}
use Rattle.engine.specs.Parts.{comes_to, times, pairs, hitting, signed_count, walk_entry, entry-is, entry-sample, read_of, entry-laid}
use Rattle.engine.specs.Parts.{plain_part, times-is, by_walk, part_hits}

-- all choices of four strings and four signs
abbrev pub choices : Four Table → List (Four Pick)
choices T =
    fours (picks T.x1.matrix.columns) (picks T.x2.matrix.columns) (picks T.x3.matrix.columns)
    (picks T.x4.matrix.columns)

-- the strings have as many bits as the tables have columns, and the signs are bits
pub record AllPicked (T : Four Table) (q : Four Pick) : Type 0 where
  pub x1 : Picked T.x1.matrix.columns q.x1
  pub x2 : Picked T.x2.matrix.columns q.x2
  pub x3 : Picked T.x3.matrix.columns q.x3
  pub x4 : Picked T.x4.matrix.columns q.x4

-- what may be chosen for four strings and signs: for each by itself, in the same lane or in another
pub record AllChosen (T : Four Table) (q : Four Pick) : Type 0 where
  pub x1 : Chosen T.x1 q.x1
  pub x2 : Chosen T.x2 q.x2
  pub x3 : Chosen T.x3 q.x3
  pub x4 : Chosen T.x4 q.x4

-- the result of a lane with the entries that the four give
unfoldable pub wide_of : ℕ → ℕ → (T : Four Table) (q : Four Pick) → AllChosen T q → Outcome ℤ
wide_of first second T q c = do
  x1 ← entry_of T.x1 q.x1 c.x1
  x2 ← entry_of T.x2 q.x2 c.x2
  x3 ← entry_of T.x3 q.x3 c.x3
  x4 ← entry_of T.x4 q.x4 c.x4
  gives (result_of first second x1 x2 x3 x4)

-- how many choices give the result r, with all that may be chosen chosen anew for each
unfoldable pub result_times : ℕ → ℕ → (T : Four Table) → ((q : Four Pick) → AllChosen T q) → ℤ → ℕ
result_times first second T choose r = count (λ q. comes_to r (wide_of first second T q (choose q))) (choices T)

-- the values of a signed sample, and the combination of four
abbrev pub values : List ℤ
values = values_to 127

abbrev pub combination_of : ℕ → ℕ → Four ℤ → ℤ
combination_of first second v = combination first second v.x1 v.x2 v.x3 v.x4

-- a part of each table, and the product of the four parts' counts of four values
pub record Parts (T : Four Table) : Type 0 where
  pub x1 : Part T.x1
  pub x2 : Part T.x2
  pub x3 : Part T.x3
  pub x4 : Part T.x4

abbrev pub times_all : (T : Four Table) → Parts T → Four ℤ → ℕ
times_all T P v =
    times T.x1 P.x1 v.x1 * times T.x2 P.x2 v.x2 * times T.x3 P.x3 v.x3 * times T.x4 P.x4 v.x4

-- the same by what the tables say
abbrev pub count_all : Four Table → Four ℤ → ℕ
count_all T v = signed_count T.x1 v.x1 * signed_count T.x2 v.x2 * signed_count T.x3 v.x3 * signed_count T.x4 v.x4

-- ---- `choices` is what it says: every choice of four strings of the tables' columns, with signs, is there once
abbrev pub same_choice : Four Pick → Four Pick → Bool
same_choice q r = same_pick q.x1 r.x1 && same_pick q.x2 r.x2 && same_pick q.x3 r.x3 && same_pick q.x4 r.x4

pub choices_once : (T : Four Table) (q : Four Pick) → AllPicked T q → count (same_choice q) (choices T) ≡ 1
choices_once T q h =
    count-all (same_pick q.x1) (same_pick q.x2) (same_pick q.x3) (same_pick q.x4) _ _ _ _ ∙
    rw (picks_once _ q.x1 h.x1, picks_once _ q.x2 h.x2, picks_once _ q.x3 h.x3, picks_once _ q.x4 h.x4)

pub choices-many : (T : Four Table) → length (choices T) ≡ pairs T.x1 * pairs T.x2 * pairs T.x3 * pairs T.x4
choices-many T =
    length-fours _ _ _ _ ∙
    rw (
      picks-many T.x1.matrix.columns,
      picks-many T.x2.matrix.columns,
      picks-many T.x3.matrix.columns,
      picks-many T.x4.matrix.columns,
    )

choices-each : (T : Four Table) → Each (AllPicked T) (choices T)
choices-each T =
    each-fours (Picked T.x1.matrix.columns) (Picked T.x2.matrix.columns) (Picked T.x3.matrix.columns)
    (Picked T.x4.matrix.columns) (AllPicked T) _ _ _ _ (λ a b c d i j k l. record { x1 = i; x2 = j; x3 = k; x4 = l })
    (picks-each T.x1.matrix.columns) (picks-each T.x2.matrix.columns) (picks-each T.x3.matrix.columns)
    (picks-each T.x4.matrix.columns)

-- ---- the entries that a table's picks give by the walk: each is among the values, once, or it is the miss
abbrev entries : Table → List ℤ
entries T = map (walk_entry T) (picks T.matrix.columns)

each-entry : (T : Table) (B : ℤ → Type 0) → ((x : ℤ) → x ≡ pos 32767 → B x) →
    Each (λ x. (count (same_z x) values ≡ 1) ⊎ B x) (entries T)
each-entry T B h =
    each_map (Picked T.matrix.columns) _ (walk_entry T) (picks T.matrix.columns)
    (λ q k. one (walk_entry T q) (entry-sample T q)) (picks-each T.matrix.columns)
  where
    one : (x : ℤ) → is_sample x ≡ true → (count (same_z x) values ≡ 1) ⊎ B x
    one x e =
        ⊎_elim (λ (q : x ≡ pos 32767). inr (h x q)) (λ (l : nat_abs x ≤ 127). inl (value_once 127 x l)) ((sample-is x).0 e)

often-is : (T : Table) (P : Part T) (z : ℤ) → often same_z (entries T) z ≡ times T P z
unfolding often count
often-is T P z = over-map (walk_entry T) (λ x. one_if (same_z x z)) (picks T.matrix.columns) ∙ by_walk T P z

-- ---- a miss in any place makes no result but the miss
module _ (first second : ℕ) (r : ℤ) (h : r ≡ combined_miss → ⊥) where
  abbrev test : ℤ → ℤ → ℤ → ℤ → Bool
  test a b c d = same_z (result_of first second a b c d) r

  fails : (a b c d : ℤ) → any_miss a b c d ≡ true → test a b c d ≡ false
  fails a b c d e = rw (some_miss first second a b c d e) (same_z_other combined_miss r (λ q. h (sym q)))

  fails_1 : (b c d : ℤ) → test (pos 32767) b c d ≡ false
  fails_1 b c d = fails (pos 32767) b c d refl

  fails_2 : (a c d : ℤ) → test a (pos 32767) c d ≡ false
  fails_2 a c d = fails a (pos 32767) c d (rw (or-true (is_signed_miss a)))

  fails_3 : (a b d : ℤ) → test a b (pos 32767) d ≡ false
  fails_3 a b d = fails a b (pos 32767) d (rw (or-true (is_signed_miss a || is_signed_miss b)))

  fails_4 : (a b c : ℤ) → test a b c (pos 32767) ≡ false
  fails_4 a b c = fails a b c (pos 32767) (or-true (is_signed_miss a || is_signed_miss b || is_signed_miss c))

-- facts of all values
each-values : (Q : Four ℤ → Type 0) →
    ((a b c d : ℤ) → nat_abs a ≤ 127 → nat_abs b ≤ 127 → nat_abs c ≤ 127 → nat_abs d ≤ 127 → Q (four a b c d)) →
    Each Q (fours values values values values)
each-values Q h =
    let small : ℤ → Type 0 = λ z. nat_abs z ≤ 127 in
    let each = values-small 127 in
    each-fours small small small small Q values values values values h each each each each

-- the count of a value is its table's
table-times : (Q : Table) (R : Part Q) (z : ℤ) → nat_abs z ≤ 127 → times Q R z ≡ signed_count Q z
table-times Q R z h = times-is Q R z (λ e. omega (arith, ap nat_abs e))

-- ---- four tables
module _ (first second : ℕ) (T : Four Table) (choose : (q : Four Pick) → AllChosen T q) where
  abbrev walk_result : Four Pick → ℤ
  walk_result q =
      result_of first second (walk_entry T.x1 q.x1) (walk_entry T.x2 q.x2) (walk_entry T.x3 q.x3)
      (walk_entry T.x4 q.x4)

  wide_is : (q : Four Pick) (c : AllChosen T q) → AllPicked T q → wide_of first second T q c ≡ gives (walk_result q)
  unfolding wide_of
  wide_is q c h =
      rw (
        entry-is T.x1 q.x1 c.x1 h.x1,
        entry-is T.x2 q.x2 c.x2 h.x2,
        entry-is T.x3 q.x3 c.x3 h.x3,
        entry-is T.x4 q.x4 c.x4 h.x4,
      )

  by_walks : (r : ℤ) → result_times first second T choose r ≡ count (λ q. same_z (walk_result q) r) (choices T)
  unfolding result_times count
  by_walks r =
      over-eq _ _ (choices T)
      (each_more (AllPicked T) _ (choices T) (λ q h. ap (λ (o : Outcome ℤ). one_if (comes_to r o)) (wide_is q (choose q) h))
      (choices-each T))

  -- The result r comes up as often as the sum of the products of the four parts' counts, over all values whose combination is r.
  pub result_times_lem : (P : Parts T) (r : ℤ) → (r ≡ combined_miss → ⊥) →
      result_times first second T choose r ≡
      over (fours values values values values) (λ v. cond (same_z (combination_of first second v) r) (times_all T P v) 0)
  unfolding count
  result_times_lem P r h =
      by_walks r ∙
      (sym
      (fours-map (walk_entry T.x1) (walk_entry T.x2) (walk_entry T.x3) (walk_entry T.x4) _ _ _ _
      (λ q. one_if (test first second r h q.x1 q.x2 q.x3 q.x4))) ∙
      (four_count same_z same_z_so values (test first second r h) (entries T.x1) (entries T.x2) (entries T.x3) (entries T.x4)
      (each-entry T.x1 _ (λ x e b c d. rw e (fails_1 first second r h b c d)))
      (each-entry T.x2 _ (λ x e a c d. rw e (fails_2 first second r h a c d)))
      (each-entry T.x3 _ (λ x e a b d. rw e (fails_3 first second r h a b d)))
      (each-entry T.x4 _ (λ x e a b c. rw e (fails_4 first second r h a b c))) ∙
      over-eq _ _ (fours values values values values)
      (each-values _
      (λ a b c d i j k l.
      rw (
        all-hit first second a b c d (value_hits a i) (value_hits b j) (value_hits c k) (value_hits d l),
        often-is T.x1 P.x1 a,
        often-is T.x2 P.x2 b,
        often-is T.x3 P.x3 c,
        often-is T.x4 P.x4 d,
      )))))

  -- The same by the tables.
  pub result_counts : (r : ℤ) → (r ≡ combined_miss → ⊥) →
      result_times first second T choose r ≡
      over (fours values values values values) (λ v. cond (same_z (combination_of first second v) r) (count_all T v) 0)
  result_counts r h =
      let P : Parts T = record { x1 = plain_part T.x1; x2 = plain_part T.x2; x3 = plain_part T.x3; x4 = plain_part T.x4 } in
      result_times_lem P r h ∙
      over-eq _ _ (fours values values values values)
      (each-values _
      (λ a b c d i j k l.
      rw (
        table-times T.x1 P.x1 a i,
        table-times T.x2 P.x2 b j,
        table-times T.x3 P.x3 c k,
        table-times T.x4 P.x4 d l,
      )))

  -- ---- misses
  abbrev missed : Table → Pick → Bool
  missed Q q = is_signed_miss (walk_entry Q q)

  abbrev hit : Table → Pick → Bool
  hit Q q = not (missed Q q)

  abbrev all_hit : Four Pick → Bool
  all_hit q = hit T.x1 q.x1 && hit T.x2 q.x2 && hit T.x3 q.x3 && hit T.x4 q.x4

  none_miss : (a b c d : Bool) → (a || b || c || d) ≡ not (not a && not b && not c && not d)
  none_miss true b c d = refl
  none_miss false true c d = refl
  none_miss false false true d = refl
  none_miss false false false true = refl
  none_miss false false false false = refl

  hits : count all_hit (choices T) ≡ hitting T.x1 * hitting T.x2 * hitting T.x3 * hitting T.x4
  hits =
      count-all (hit T.x1) (hit T.x2) (hit T.x3) (hit T.x4) _ _ _ _ ∙
      rw (part_hits T.x1, part_hits T.x2, part_hits T.x3, part_hits T.x4)

  module _ (f : first ≤ most_multiplier) (s : second ≤ most_multiplier) where
    missing : count (λ q. same_z (walk_result q) combined_miss) (choices T) ≡ count (λ q. not (all_hit q)) (choices T)
    unfolding count
    missing =
        over-all _ _ (choices T)
        (λ q.
        ap one_if
        (result_miss first second _ _ _ _ f s (entry-sample T.x1 q.x1) (entry-sample T.x2 q.x2)
        (entry-sample T.x3 q.x3) (entry-sample T.x4 q.x4) ∙
        none_miss (missed T.x1 q.x1) (missed T.x2 q.x2) (missed T.x3 q.x3) (missed T.x4 q.x4)))

    -- The miss comes up in all choices but those in which all four hit.
    pub result_misses : result_times first second T choose combined_miss ≡
        pairs T.x1 * pairs T.x2 * pairs T.x3 * pairs T.x4 -
        hitting T.x1 * hitting T.x2 * hitting T.x3 * hitting T.x4
    result_misses = by_walks combined_miss ∙ (missing ∙ rw (← hits, ← choices-many T) (omega (arith, count-both all_hit (choices T))))

-- ---- where the four lanes are one, it is what `combine` lays down there
-- the same lane for all four
pub record OneLane (T : Four Table) (q : Four Pick) (c : AllChosen T q) (j : ℕ) : Type 0 where
  pub x1 : c.x1.choice.lane ≡ j
  pub x2 : c.x2.choice.lane ≡ j
  pub x3 : c.x3.choice.lane ≡ j
  pub x4 : c.x4.choice.lane ≡ j

-- starting the four programs, reading their signed samples and combining these gives 64 results, of which that of the lane is `wide_of`
module _ (first second : ℕ) (T : Four Table) (q : Four Pick) (c : AllChosen T q) (h : AllPicked T q) (j : ℕ) (l : OneLane T q c j)
    (f : unfit first second ≡ false) (rooms : Four ℕ) (room : ℕ) (s1 : lanes ≤ rooms.x1) (s2 : lanes ≤ rooms.x2)
    (s3 : lanes ≤ rooms.x3) (s4 : lanes ≤ rooms.x4) (space : lanes ≤ room) where
  in_word : j < lanes
  in_word = subst (λ (i : ℕ). i < lanes) l.x1 (c.x1.fair h.x1).in_word

  at-lane : (x1 x2 x3 x4 : List ℤ) (i1 i2 i3 i4 : ℕ) → Samples x1 → Samples x2 → Samples x3 → Samples x4 → i1 ≡ j → i2 ≡ j → i3 ≡ j →
      i4 ≡ j → mapped (λ xs. entry xs j) (combine_of first second x1 x2 x3 x4 room) ≡
      gives (result_of first second (entry x1 i1) (entry x2 i2) (entry x3 i3) (entry x4 i4))
  at-lane x1 x2 x3 x4 i1 i2 i3 i4 a b d e l1 l2 l3 l4 =
      rw (samples_combined first second room x1 x2 x3 x4 a b d e f space, l1, l2, l3, l4)
      (ap gives (get_d_upto lanes (result_at first second x1 x2 x3 x4) j (pos 0) in_word))

  pub wide-laid : (do
    x1 ← read_of T.x1 q.x1 c.x1 rooms.x1
    x2 ← read_of T.x2 q.x2 c.x2 rooms.x2
    x3 ← read_of T.x3 q.x3 c.x3 rooms.x3
    x4 ← read_of T.x4 q.x4 c.x4 rooms.x4
    mapped (λ xs. entry xs j) (combine_of first second x1 x2 x3 x4 room)) ≡ wide_of first second T q c
  unfolding wide_of
  wide-laid =
      let a = entry-laid T.x1 q.x1 c.x1 h.x1 rooms.x1 s1 in
      let b = entry-laid T.x2 q.x2 c.x2 h.x2 rooms.x2 s2 in
      let d = entry-laid T.x3 q.x3 c.x3 h.x3 rooms.x3 s3 in
      let e = entry-laid T.x4 q.x4 c.x4 h.x4 rooms.x4 s4 in
      rw (a.1, b.1, d.1, e.1, a.3, b.3, d.3, e.3)
      (at-lane a.0 b.0 d.0 e.0 _ _ _ _ a.2 b.2 d.2 e.2 l.x1 l.x2 l.x3 l.x4)
