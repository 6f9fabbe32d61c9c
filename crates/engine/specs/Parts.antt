-- 02, order 2: the parts' counts. A part is a compiled program whose signed samples are read; a value's count is how many pairs of a string
-- and a sign give it. Assumes nothing.
use Prim.Native.Nat.{ℕ, zero, suc, ◌+◌, ◌*◌, ◌-◌, ◌^◌, ◌≤◌, ◌<◌}
use Rattle.std.specs.Prelude.{◌≡◌, Bool, true, false, not, ◌&&◌, eqb, pos, negsuc, length}
use Rattle.std.proofs.Math.Path.{refl, sym, ap, ap₂}
use Rattle.std.proofs.Common.{◌∙◌, arith, length-append}
use mathlib.Core.List.{List, ◌++◌, map}
use Rattle.std.proofs.Math.Logic.{⊎_elim}
use Rattle.std.proofs.Math.Nat.{mul-le-mul_right}
use borrow.Author.Tests.{ne_eqb}
use Rattle.std.proofs.Math.Dec.{eqb-suc-suc}
use Rattle.std.proofs.Math.IntN.{ℤ, nat_abs}
use Rattle.std.proofs.lemmas.List.{length-map}
use Rattle.std.proofs.Math.ListN.{get_or-eq_default}
use Rattle.laws.specs.Tests.{same, lt-or_ge}
use Rattle.laws.specs.Digits.{number-zero}
use Rattle.laws.specs.Words.{bit_at}
use Rattle.laws.specs.Lists.{Each, each_append, each_map, each_more, upto, get_d_upto}
use Rattle.laws.specs.Outcome.{Outcome, refused, gives, mapped, ◌>>=◌}
use Rattle.files.specs.Matrix.{Matrix, Accepted, bit, p, total}
use Rattle.files.specs.Files.{matrix_of}
use Rattle.files.specs.RoundTrip.{read_accepted}
use Rattle.walk.specs.Walk.{drawn, answer_of, hits, misses, Drawn, hit, miss}
use Rattle.walk.specs.Strings.{Bits, strings, strings-bits, strings-many, strings_once, over, one_if, count, over-append, over-map}
use Rattle.walk.specs.Strings.{over-all, over_none, over-eq, over-bits, count-both}
use Rattle.walk.specs.Theorems.{hit-inside, hits-row, misses-rest}
use Rattle.machine.specs.Runs.{start_of}
use Rattle.lanes.specs.Slicing.{lanes}
use Rattle.lanes.specs.Samples.{negated_if, signed_code, signed_samples_of, sample_of, lanes_give}
use Rattle.lanes.specs.Lanes.{Small, distance}
use Rattle.compiler.specs.Compiled.{header-rows}
use Rattle.compiler.specs.Translation.{program, compiled}
use Rattle.combining.specs.Integers.{same_z, same_z_other}
use Rattle.combining.specs.Reading.{code-sample, read_samples}
use Rattle.combining.specs.Combination.{entry, is_signed_miss, is_sample, Samples}
use Rattle.engine.specs.Given.{Choice, Fair, given}
use Rattle.engine.specs.Lanewise.{starts, lane-draws}
use Rattle.engine.specs.Demand3.{plainly, plainly_fair, low_bit}

-- a string and a sign
pub record Pick : Type 0 where
  pub string : List ℕ
  pub sign : ℕ

abbrev pick : ℕ → List ℕ → Pick
pick b s = record { string = s; sign = b }

-- the string has n bits, and the sign is one bit
pub record Picked (n : ℕ) (q : Pick) : Type 0 where
  pub bits : Bits n q.string
  pub sign : q.sign ≤ 1

-- all of n bits: with sign 0, then with sign 1
unfoldable pub picks : ℕ → List Pick
picks n = map (pick 0) (strings n) ++ map (pick 1) (strings n)

-- an accepted matrix, with its file
pub record Table : Type 0 where
  pub file : List ℕ
  pub matrix : Matrix
  pub accepted : matrix_of file ≡ gives matrix

-- what may be chosen for a string and a sign: lane, other lanes, earlier contents and budget, as in demand 3, and a sign word whose bit for
-- that lane is the sign, whatever its other bits are
pub record Chosen (T : Table) (q : Pick) : Type 0 where
  pub choice : Choice
  pub word : ℕ
  pub fair : Picked T.matrix.columns q → Fair (program T.matrix) q.string choice
  pub signs : Picked T.matrix.columns q → bit_at word choice.lane ≡ q.sign

-- a part: chosen anew for each string and sign
abbrev pub Part : Table → Type 0
Part T = (q : Pick) → Chosen T q

-- the signed sample of the chosen lane of the outputs after the start
unfoldable pub entry_of : (T : Table) (q : Pick) → Chosen T q → Outcome ℤ
entry_of T q c = mapped (signed_code (bit_at c.word c.choice.lane)) (given (compiled T.matrix) c.choice)

-- whether an outcome is z
abbrev pub comes_to : ℤ → Outcome ℤ → Bool
comes_to z (refused n) = false
comes_to z (gives x) = same_z x z

-- the part's count of z: how many pairs of a string and a sign give it
unfoldable pub times : (T : Table) → Part T → ℤ → ℕ
times T P z = count (λ q. comes_to z (entry_of T q (P q))) (picks T.matrix.columns)

-- how many pairs there are, and how many of them hit: twice 2^n, and twice T
abbrev pub pairs : Table → ℕ
pairs T = 2 * 2 ^ T.matrix.columns

abbrev pub hitting : Table → ℕ
hitting T = 2 * total T.matrix

-- a value's count by the table: each row's number of strings, from each sign, and 0 from both
abbrev pub signed_count : Table → ℤ → ℕ
signed_count T (pos zero) = 2 * p T.matrix 0
signed_count T (pos (suc v)) = p T.matrix (suc v)
signed_count T (negsuc v) = p T.matrix (suc v)

-- ---- `picks n` is what it says
pub picks-many : (n : ℕ) → length (picks n) ≡ 2 * 2 ^ n
unfolding picks
picks-many n =
    length-append (map (pick 0) (strings n)) (map (pick 1) (strings n)) ∙
    omega (arith, length-map (strings n) (pick 0), length-map (strings n) (pick 1), strings-many n)

pub picks-each : (n : ℕ) → Each (Picked n) (picks n)
unfolding picks
picks-each n =
    each_append (Picked n) (map (pick 0) (strings n)) (map (pick 1) (strings n)) (signed 0 (omega arith)) (signed 1 (omega arith))
  where
    signed : (b : ℕ) → b ≤ 1 → Each (Picked n) (map (pick b) (strings n))
    signed b h = each_map (Bits n) (Picked n) (pick b) (strings n) (λ s k. record { bits = k; sign = h }) (strings-bits n)

-- a sum over them is one over the strings with each sign
over-picks : (n : ℕ) (g : Pick → ℕ) → over (picks n) g ≡ over (strings n) (λ s. g (pick 0 s)) + over (strings n) (λ s. g (pick 1 s))
unfolding picks
over-picks n g =
    over-append g (map (pick 0) (strings n)) (map (pick 1) (strings n)) ∙
    ap₂ ◌+◌ (over-map (pick 0) g (strings n)) (over-map (pick 1) g (strings n))

abbrev pub same_pick : Pick → Pick → Bool
same_pick q r = eqb q.sign r.sign && same q.string r.string

-- each is there once
pub picks_once : (n : ℕ) (q : Pick) → Picked n q → count (same_pick q) (picks n) ≡ 1
unfolding count
picks_once n q h = over-picks n (λ r. one_if (same_pick q r)) ∙ go q.sign h.sign
  where
    go : (b : ℕ) → b ≤ 1 →
        over (strings n) (λ s. one_if (eqb b 0 && same q.string s)) + over (strings n) (λ s. one_if (eqb b 1 && same q.string s)) ≡ 1
    go zero l = ap₂ ◌+◌ (strings_once n q.string h.bits) (over_none (strings n))
    go (suc zero) l = ap₂ ◌+◌ (over_none (strings n)) (strings_once n q.string h.bits)
    go (suc (suc b)) l = absurd (omega arith)

-- ---- there is such a part for every table: lane 0, and the sign itself for a sign word
pub plain_part : (T : Table) → Part T
plain_part T q =
    record {
      choice = plainly T.matrix q.string;
      word = q.sign;
      fair = λ h. plainly_fair T.matrix q.string h.bits;
      signs = λ h. low_bit q.sign h.sign;
    }

-- ---- an entry is the walk's, with the sign
-- what `signed_samples` lays down after the start, with the sign word, in a buffer of `room` places
abbrev pub read_of : (T : Table) (q : Pick) → Chosen T q → ℕ → Outcome (List ℤ)
read_of T q c room =
    start_of (compiled T.matrix) c.choice.inputs c.choice.registers c.choice.outputs c.choice.budget >>=
    (λ e. signed_samples_of T.matrix.rows e.state.outputs c.word room)

accepts : (T : Table) → Accepted T.matrix
accepts T = read_accepted T.file T.matrix T.accepted

abbrev pub walk_entry : Table → Pick → ℤ
walk_entry T q = signed_code q.sign (answer_of (drawn T.matrix q.string))

module _ (T : Table) (q : Pick) (c : Chosen T q) (h : Picked T.matrix.columns q) where
  pub entry-is : entry_of T q c ≡ gives (walk_entry T q)
  unfolding entry_of
  entry-is = rw (c.signs h, lane-draws T.matrix (accepts T) q.string h.bits.long c.choice (c.fair h))

  -- reading lays down 64 samples, of which the lane's is the entry
  pub entry-laid : (room : ℕ) → lanes ≤ room →
      (xs : List ℤ) × (read_of T q c room ≡ gives xs) × Samples xs × (entry_of T q c ≡ gives (entry xs c.choice.lane))
  unfolding entry_of given
  entry-laid room space =
      let M = T.matrix in
      let a = accepts T in
      let f = c.fair h in
      let s = starts M a q.string h.bits.long c.choice f in
      let out = s.ended.state.outputs in
      let code : ℕ → ℤ = λ j. signed_code (bit_at c.word j) (sample_of M.rows out j) in
      let laid = lanes_give M.rows out room code s.suits space in (
        upto lanes code,
        rw s.is laid,
        read_samples M.rows out c.word room (upto lanes code) laid,
        rw (s.is, header-rows M a) (ap gives (sym (get_d_upto lanes code c.choice.lane (pos 0) f.in_word))),
      )

-- ---- every row's strings, also of rows that are not there
module _ (M : Matrix) (a : Accepted M) where
  beyond : (v : ℕ) → M.rows ≤ v → p M v ≡ 0
  unfolding p bit
  beyond v h =
      let far : M.rows * M.columns ≤ v * M.columns = mul-le-mul_right M.columns h in
      number-zero (bit M v) 0 M.columns
      (λ i l. get_or-eq_default M.entries 0 {n = v * M.columns + (0 + i)} (omega (arith, a.whole)))

  no_hit : (v : ℕ) → M.rows ≤ v → (s : List ℕ) (d : Drawn) → drawn M s ≡ d → hits v d ≡ false
  unfolding hits
  no_hit v h s (hit u c) e = ne_eqb u v (λ q. omega (arith, (hit-inside M s u c e).0))
  no_hit v h s miss e = refl

  hits-every : (v : ℕ) → count (λ s. hits v (drawn M s)) (strings M.columns) ≡ p M v
  unfolding count
  hits-every v =
      ⊎_elim (λ (h : v < M.rows). hits-row M a v h)
      (λ (h : M.rows ≤ v).
      over-all _ _ (strings M.columns) (λ s. ap one_if (no_hit v h s (drawn M s) refl)) ∙
      (over_none (strings M.columns) ∙ sym (beyond v h)))
      (lt-or_ge v M.rows)

  -- what a walk gives is small: a row below 128, or a miss
  drawn-small : (s : List ℕ) (d : Drawn) → drawn M s ≡ d → Small (answer_of d)
  drawn-small s (hit u c) e = omega (arith, (hit-inside M s u c e).0, a.few_rows)
  drawn-small s miss e = tt

  miss_test : (b : ℕ) (s : List ℕ) (d : Drawn) → drawn M s ≡ d → same_z (signed_code b (answer_of d)) (pos 32767) ≡ misses d
  unfolding misses
  miss_test b s (hit u c) e =
      same_z_other (negated_if b u) (pos 32767) (λ q. omega (arith, ap nat_abs q, distance b u, drawn-small s (hit u c) e))
  miss_test b s miss e = refl

-- ---- the counts
module _ (T : Table) where
  abbrev M : Matrix
  M = T.matrix

  abbrev n : ℕ
  n = M.columns

  -- what a pick gives by the walk is a sample
  pub entry-sample : (q : Pick) → is_sample (walk_entry T q) ≡ true
  entry-sample q = code-sample q.sign (answer_of (drawn M q.string)) (drawn-small M (accepts T) q.string (drawn M q.string) refl)

  module _ (P : Part T) where
    -- a count over strings and signs, by what each sign makes of the walk
    by_signs : (z : ℤ) (f g : List ℕ → Bool) → ((s : List ℕ) → same_z (walk_entry T (pick 0 s)) z ≡ f s) →
        ((s : List ℕ) → same_z (walk_entry T (pick 1 s)) z ≡ g s) → times T P z ≡ count f (strings n) + count g (strings n)
    unfolding times count
    by_signs z f g ef eg =
        over-picks n (λ q. one_if (comes_to z (entry_of T q (P q)))) ∙ ap₂ ◌+◌ (signed 0 (omega arith) f ef) (signed 1 (omega arith) g eg)
      where
        signed : (b : ℕ) → b ≤ 1 → (f : List ℕ → Bool) → ((s : List ℕ) → same_z (walk_entry T (pick b s)) z ≡ f s) →
            over (strings n) (λ s. one_if (comes_to z (entry_of T (pick b s) (P (pick b s))))) ≡ over (strings n) (λ s. one_if (f s))
        signed b l f e =
            over-bits n (λ s. one_if (comes_to z (entry_of T (pick b s) (P (pick b s))))) (λ s. one_if (f s))
            (λ s k. ap one_if (ap (comes_to z) (entry-is T (pick b s) (P (pick b s)) (record { bits = k; sign = l })) ∙ e s))

    none : count {A = List ℕ} (λ s. false) (strings n) ≡ 0
    unfolding count
    none = over_none (strings n)

    -- the count of every number but the miss is the table's
    pub times-is : (z : ℤ) → (z ≡ pos 32767 → ⊥) → times T P z ≡ signed_count T z
    unfolding hits
    times-is (pos zero) h =
        by_signs (pos 0) (λ s. hits 0 (drawn M s)) (λ s. hits 0 (drawn M s)) (λ s. plus (drawn M s)) (λ s. minus (drawn M s)) ∙
        omega (arith, hits-every M (accepts T) 0)
      where
        plus : (d : Drawn) → same_z (signed_code 0 (answer_of d)) (pos 0) ≡ hits 0 d
        plus (hit u c) = refl
        plus miss = refl

        minus : (d : Drawn) → same_z (signed_code 1 (answer_of d)) (pos 0) ≡ hits 0 d
        minus (hit zero c) = refl
        minus (hit (suc u) c) = sym (ne_eqb (suc u) 0 (λ e. omega arith))
        minus miss = refl
    times-is (pos (suc v)) h =
        by_signs (pos (suc v)) (λ s. hits (suc v) (drawn M s)) (λ s. false) (λ s. plus (drawn M s)) (λ s. minus (drawn M s)) ∙
        omega (arith, hits-every M (accepts T) (suc v), none)
      where
        plus : (d : Drawn) → same_z (signed_code 0 (answer_of d)) (pos (suc v)) ≡ hits (suc v) d
        plus (hit u c) = refl
        plus miss = ne_eqb 32767 (suc v) (λ e. h (ap pos (sym e)))

        minus : (d : Drawn) → same_z (signed_code 1 (answer_of d)) (pos (suc v)) ≡ false
        minus (hit zero c) = ne_eqb 0 (suc v) (λ e. omega arith)
        minus (hit (suc u) c) = refl
        minus miss = ne_eqb 32767 (suc v) (λ e. h (ap pos (sym e)))
    times-is (negsuc v) h =
        by_signs (negsuc v) (λ s. false) (λ s. hits (suc v) (drawn M s)) (λ s. plus (drawn M s)) (λ s. minus (drawn M s)) ∙
        omega (arith, hits-every M (accepts T) (suc v), none)
      where
        plus : (d : Drawn) → same_z (signed_code 0 (answer_of d)) (negsuc v) ≡ false
        plus (hit u c) = refl
        plus miss = refl

        minus : (d : Drawn) → same_z (signed_code 1 (answer_of d)) (negsuc v) ≡ hits (suc v) d
        minus (hit zero c) = sym (ne_eqb 0 (suc v) (λ e. omega arith))
        minus (hit (suc u) c) = sym (eqb-suc-suc u v)
        minus miss = refl

    -- and the miss comes twice for each string that misses
    pub times_miss : times T P (pos 32767) ≡ 2 * (2 ^ n - total M)
    times_miss =
        by_signs (pos 32767) (λ s. misses (drawn M s)) (λ s. misses (drawn M s)) (λ s. miss_test M (accepts T) 0 s (drawn M s) refl)
        (λ s. miss_test M (accepts T) 1 s (drawn M s) refl) ∙ omega (arith, misses-rest M (accepts T))

    -- counts by the walk
    pub by_walk : (z : ℤ) → count (λ q. same_z (walk_entry T q) z) (picks n) ≡ times T P z
    unfolding times count
    by_walk z =
        sym
        (over-eq _ _ (picks n)
        (each_more (Picked n) _ (picks n) (λ q h. ap (λ (o : Outcome ℤ). one_if (comes_to z o)) (entry-is T q (P q) h)) (picks-each n)))

  -- all pairs but those that miss hit
  pub part_hits : count (λ q. not (is_signed_miss (walk_entry T q))) (picks n) ≡ hitting T
  part_hits =
      let P = plain_part T in
      omega (
        arith,
        count-both (λ q. is_signed_miss (walk_entry T q)) (picks n),
        by_walk P (pos 32767),
        times_miss P,
        picks-many n,
        (accepts T).sum,
      )
