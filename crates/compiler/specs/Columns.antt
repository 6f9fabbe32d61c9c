-- What each part of the translation does to the registers of one lane: they follow the walk from place to place. Assumes nothing.
use Prim.Native.Nat.{ℕ, zero, suc, ◌+◌, ◌*◌, ◌-◌, ◌/◌, ◌%◌, ◌^◌, ◌≤◌, ◌<◌, min, max}
use Rattle.std.specs.Prelude.{◌≡◌, ◌≢◌, length}
use Rattle.std.proofs.Math.Path.{refl, ap}
use Rattle.std.proofs.Common.{ap₂, ◌∙◌, subst}
use mathlib.Core.List.{List, [], ◌∷◌, ◌++◌}
use Rattle.std.proofs.Math.Nat.{add-zero}
use Rattle.std.proofs.Math.Numerals.{add-one}
use native.Mathlib.Omega.{arith}
use Rattle.std.proofs.Math.ListN.{get_or}
use Rattle.laws.specs.Sums.{sum_to}
use Rattle.laws.specs.Lists.{blocks, Each, each-blocks}
use Rattle.files.specs.Matrix.{ones_in}
use Rattle.programs.specs.declared.description.Instruction.{Instruction}
use Rattle.programs.specs.declared.description.Instruction.TheVariants.{Input, Not, And, Or}
use Rattle.walk.specs.Walk.{Place, at, scan}
use Rattle.machine.specs.Meaning.{bit_gates, State, exec, exec_append}
use Rattle.compiler.specs.Translation.{reg_b, reg_n, reg_h, reg_v, reg_x, reg_y, apart, split, if_set, spell, mark, marks}
use Rattle.compiler.specs.Translation.{carry, keep, live_before, column}
use Rattle.compiler.specs.Room.{Roomy, live-le, live-next}
use Rattle.compiler.specs.Ranges.{each_if}
use Rattle.compiler.specs.Places.{hit_bit, sample_bit, answer_at, is_at, doubled, meeting, onto, doubled_even, doubled_odd}
use Rattle.compiler.specs.Places.{doubled-answer, meeting_hit, meeting_row, meeting_at, onto_none, onto_clear, onto_set}
use Rattle.compiler.specs.Effects.{reg, Leaves, run, still_long, run_leaves, writes-first, blocks_still, blocks_leave}

-- H and the V say what is told of the place o
pub record Tells (k m : ℕ) (o : Place) (s : State ℕ) : Type 0 where
  pub long : 3 + k + 3 * m ≤ length s.registers
  pub at_h : reg reg_h s ≡ hit_bit (answer_at o)
  pub at_v : (t : ℕ) → t < k → reg (reg_v t) s ≡ sample_bit t (answer_at o)

-- between columns: and the X its distance, h of them live
pub record Stands (k m h : ℕ) (o : Place) (s : State ℕ) : Type 0 where
  pub tells : Tells k m o s
  pub at_x : (i : ℕ) → i < h → reg (reg_x k i) s ≡ is_at i o

-- inside a column: and the Y from j on, where j set rows are met and n distances were live before them
record Scans (k m n j : ℕ) (o : Place) (s : State ℕ) : Type 0 where
  tells : Tells k m o s
  at_y : (a i : ℕ) → a ≡ j + i → a < n → reg (reg_y k m a) s ≡ is_at i o

module _ (inputs : List ℕ) (k m : ℕ) where
  abbrev Long : State ℕ → Type 0
  Long s = 3 + k + 3 * m ≤ length s.registers

  still : (is : List Instruction) (s : State ℕ) → Long s → Long (run inputs is s)
  still is s l = still_long inputs is s (3 + k + 3 * m) l

  -- instructions that leave H and the V alone
  tells_still : {o o' : Place} (is : List Instruction) (s : State ℕ) → ((r : ℕ) → 2 ≤ r → r < 3 + k → Each (Leaves r) is) →
      answer_at o ≡ answer_at o' → Tells k m o s → Tells k m o' (run inputs is s)
  tells_still is s n e here =
      record {
        long = still is s here.long;
        at_h = run_leaves inputs reg_h is s (n reg_h (omega arith) (omega arith)) ∙ (here.at_h ∙ ap hit_bit e);
        at_v = λ t l. run_leaves inputs (reg_v t) is s (n (reg_v t) (omega arith) (omega arith)) ∙ (here.at_v t l ∙ ap (sample_bit t) e);
      }

  -- ---- the distances split, by the bit b
  module _ (b : ℕ) (bit : b ≤ 1) (o : Place) where
    apart_run : (i d : ℕ) (s : State ℕ) → i < m → Long s → reg reg_b s ≡ b → reg reg_n s ≡ 1 - b → reg (reg_x k i) s ≡ is_at i o →
        d ≤ 1 → reg (reg_y k m (2 * i + d)) (run inputs (apart k m i) s) ≡ is_at (2 * i + d) (doubled b o)
    unfolding exec
    apart_run i zero s h long is_b isN isX u =
        rw add-zero
        (writes-first inputs (And (reg_y k m (2 * i)) (reg_x k i) reg_n) (And (reg_y k m (2 * i + 1)) (reg_x k i) reg_b ∷ []) s
        (reg_y k m (2 * i)) refl (omega arith) (omega arith) ∙
        (ap₂ min isX isN ∙ doubled_even b i o bit))
    apart_run i (suc zero) s h long is_b isN isX u =
        let one : List Instruction = And (reg_y k m (2 * i)) (reg_x k i) reg_n ∷ [] in
        writes-first inputs (And (reg_y k m (2 * i + 1)) (reg_x k i) reg_b) [] (run inputs one s) (reg_y k m (2 * i + 1)) refl
        (omega (arith, still one s long)) tt ∙
        (ap₂ min (run_leaves inputs (reg_x k i) one s (omega arith) ∙ isX) (run_leaves inputs reg_b one s (omega arith) ∙ is_b) ∙
        doubled_odd b i o bit)
    apart_run i (suc (suc d)) s h long is_b isN isX u = absurd (omega arith)

    aparts_run : (h : ℕ) (s : State ℕ) → h ≤ m → Long s → reg reg_b s ≡ b → reg reg_n s ≡ 1 - b →
        ((i : ℕ) → i < h → reg (reg_x k i) s ≡ is_at i o) → (j : ℕ) → j < 2 * h →
        reg (reg_y k m j) (run inputs (blocks h (apart k m)) s) ≡ is_at j (doubled b o)
    aparts_run h s few long is_b isN isX j l =
        let i : ℕ = j / 2 in
        let before : List Instruction = blocks i (apart k m) in
        let other : (r : ℕ) → r < reg_y k m 0 → reg r (run inputs before s) ≡ reg r s =
        λ r u. blocks_still inputs r (apart k m) s i (λ j a. omega arith) in
        let e : 2 * i + j % 2 ≡ j = omega arith in
        subst (λ (j : ℕ). reg (reg_y k m j) (run inputs (blocks h (apart k m)) s) ≡ is_at j (doubled b o)) e
        (blocks_leave inputs (reg_y k m (2 * i + j % 2)) (apart k m) s h i (omega arith) (λ j a c. omega arith) ∙
        apart_run i (j % 2) (run inputs before s) (omega arith) (still before s long) (other reg_b (omega arith) ∙ is_b)
        (other reg_n (omega arith) ∙ isN) (other (reg_x k i) (omega arith) ∙ isX i (omega arith)) (omega arith))

  -- the bit of column c is read
  split_run : (c h : ℕ) (o : Place) (s : State ℕ) → get_or inputs c 0 ≤ 1 → h ≤ m → Stands k m h o s →
      Scans k m (2 * h) 0 (doubled (get_or inputs c 0) o) (run inputs (split k m c h) s)
  unfolding exec
  split_run c h o s bit few here =
      let b : ℕ = get_or inputs c 0 in
      let long = here.tells.long in
      let one : List Instruction = Input reg_b c ∷ [] in
      let two : List Instruction = Input reg_b c ∷ Not reg_n reg_b ∷ [] in
      let s' : State ℕ = run inputs two s in
      let other : (i : ℕ) → reg (reg_x k i) s' ≡ reg (reg_x k i) s = λ i. run_leaves inputs (reg_x k i) two s (omega arith) in
      let is_b : reg reg_b s' ≡ b = writes-first inputs (Input reg_b c) (Not reg_n reg_b ∷ []) s reg_b refl (omega arith) (omega arith) in
      let isN : reg reg_n s' ≡ 1 - b =
      writes-first inputs (Not reg_n reg_b) [] (run inputs one s) reg_n refl (omega (arith, still one s long)) tt ∙
      ap (λ (x : ℕ). 1 - x) (writes-first inputs (Input reg_b c) [] s reg_b refl (omega arith) tt) in
      record {
        tells =
            tells_still (split k m c h) s
            (λ r a l. (omega arith, (omega arith, each-blocks (Leaves r) (apart k m) h (λ i u. omega arith)))) (doubled-answer b o)
            here.tells;
        at_y = λ a i e l.
            aparts_run b bit o h s' few (still two s long) is_b isN (λ i u. other i ∙ here.at_x i u) a l ∙
            ap (λ (j : ℕ). is_at j (doubled b o)) (omega arith);
      }

  -- ---- a set row is met
  module _ (j : ℕ) where
    abbrev or_v : ℕ → Instruction
    or_v t = Or (reg_v t) (reg_v t) (reg_y k m j)

    if_run : (b t x y : ℕ) (s : State ℕ) → b ≤ 1 → reg_v t < length s.registers → reg (reg_v t) s ≡ x → reg (reg_y k m j) s ≡ y →
        reg (reg_v t) (run inputs (if_set b (or_v t ∷ [])) s) ≡ max x (b * y)
    unfolding exec if_set
    if_run zero t x y s h l p q = omega arith
    if_run (suc zero) t x y s h l p q = writes-first inputs (or_v t) [] s (reg_v t) refl l tt ∙ omega arith
    if_run (suc (suc b)) t x y s h l p q = absurd (omega arith)

    module _ (v : ℕ) where
      rows_leave : (n : ℕ) (s : State ℕ) (r : ℕ) → ((t : ℕ) → t < n → r ≢ reg_v t) →
          reg r (run inputs (blocks n (spell k m v j)) s) ≡ reg r s
      rows_leave n s r f =
          blocks_still inputs r (spell k m v j) s n (λ t l. each_if (Leaves r) (v / 2 ^ t % 2) _ (λ b. ((f t l, tt), tt)))

      mark_run : (n : ℕ) (o : Place) (s : State ℕ) → j < n → Scans k m n j o s →
          Scans k m n (suc j) (meeting v o) (run inputs (mark k m v j) s)
      unfolding exec
      mark_run n o s l here =
          let one : List Instruction = Or reg_h reg_h (reg_y k m j) ∷ [] in
          let s' : State ℕ = run inputs one s in
          let before : ℕ → List Instruction = λ t. blocks t (spell k m v j) in
          let long = still one s here.tells.long in
          let isY : reg (reg_y k m j) s ≡ is_at 0 o = here.at_y j 0 (omega arith) l in
          let other : (r : ℕ) → r ≢ 2 → reg r s' ≡ reg r s = λ r u. run_leaves inputs r one s ((u, tt), tt) in
          record {
            tells =
                record {
                  long = still (before k) s' long;
                  at_h = rows_leave k s' reg_h (λ t u. omega arith) ∙
                      (writes-first inputs (Or reg_h reg_h (reg_y k m j)) [] s reg_h refl (omega (arith, here.tells.long)) tt ∙
                      (ap₂ max here.tells.at_h isY ∙ meeting_hit v o));
                  at_v = λ t u.
                      blocks_leave inputs (reg_v t) (spell k m v j) s' k t u
                      (λ w a b. each_if (Leaves (reg_v t)) (v / 2 ^ w % 2) _ (λ c. ((omega arith, tt), tt))) ∙
                      (if_run (v / 2 ^ t % 2) t _ _ (run inputs (before t) s') (omega arith) (omega (arith, still (before t) s' long))
                      (rows_leave t s' (reg_v t) (λ i a. omega arith) ∙ (other (reg_v t) (omega arith) ∙ here.tells.at_v t u))
                      (rows_leave t s' (reg_y k m j) (λ i a. omega arith) ∙ (other (reg_y k m j) (omega arith) ∙ isY)) ∙
                      meeting_row v t o);
                };
            at_y = λ a i e u. rows_leave k s' (reg_y k m a) (λ t w. omega arith) ∙
                (other (reg_y k m a) (omega arith) ∙ (here.at_y a (suc i) (omega arith) u ∙ meeting_at v i o));
          }

  -- ---- the rows of a column
  module _ (n : ℕ) where
    -- instructions that do what the rows do, w of them set, from any place on after j set rows
    abbrev Does : (ℕ → Place) → ℕ → (ℕ → List Instruction) → Type 0
    Does rows w is =
        (o : Place) (j : ℕ) (s : State ℕ) → w + j ≤ n → Scans k m n j o s → Scans k m n (w + j) (onto o rows) (run inputs (is j) s)

    row_run : (b r w : ℕ) (rows : ℕ → Place) (is : ℕ → List Instruction) → b ≤ 1 → Does rows w is →
        Does (λ d. at b r d rows) (b + w) (λ j. if_set b (mark k m r j) ++ is (j + b))
    unfolding if_set
    row_run zero r w rows is l does o j s h scans =
        let e : 0 + w + j ≡ w + j = omega arith in
        rw (e, add-zero j, ← onto_clear r o rows) (does o j s (omega arith) scans)
    row_run (suc zero) r w rows is l does o j s h scans =
        let e : 1 + w + j ≡ w + suc j = omega arith in
        let s' : State ℕ = run inputs (mark k m r j) s in
        rw (e, add-one j, exec_append bit_gates inputs (mark k m r j) (is (suc j)) s, ← onto_set 0 r o rows)
        (does (meeting r o) (suc j) s' (omega arith) (mark_run j r n o s (omega arith) scans))
    row_run (suc (suc b)) r w rows is l does o j s h scans = absurd (omega arith)

    marks_run : (ones : ℕ → ℕ) (r : ℕ) → ((v : ℕ) → v < r → ones v ≤ 1) →
        Does (λ d. scan ones r d) (sum_to r ones) (λ j. marks k m ones r j)
    unfolding marks scan sum_to exec
    marks_run ones zero ok = λ o j s h scans.
        let e : 0 + j ≡ j = omega arith in
        rw (e, ← onto_none o) scans
    marks_run ones (suc r) ok =
        row_run (ones r) r (sum_to r ones) (λ d. scan ones r d) (λ i. marks k m ones r i) (ok r (omega arith))
        (marks_run ones r (λ v l. ok v (omega arith)))

  -- ---- the distances that stay live
  keep_run : (w n g : ℕ) (o : Place) (s : State ℕ) → w + g ≤ n → g ≤ m → Scans k m n w o s →
      Stands k m g o (run inputs (keep k m w g) s)
  keep_run w n g o s h few here =
      let before : ℕ → List Instruction = λ i. blocks i (carry k m w) in
      record {
        tells =
            tells_still (before g) s (λ r a l. each-blocks (Leaves r) (carry k m w) g (λ i u. omega arith)) refl here.tells;
        at_x = λ i l. let y : ℕ = reg_y k m (w + i) in
            blocks_leave inputs (reg_x k i) (carry k m w) s g i l (λ j a b. omega arith) ∙
            (writes-first inputs (Or (reg_x k i) y y) [] (run inputs (before i) s) (reg_x k i) refl
            (omega (arith, still (before i) s here.tells.long)) tt ∙
            omega (arith, blocks_still inputs y (carry k m w) s i (λ j a. omega arith), here.at_y (w + i) i refl (omega arith)));
      }

  -- ---- a column, from the place before it to the place after it
  module _ (n : ℕ) (bit : ℕ → ℕ → ℕ) (roomy : Roomy m n bit) where
    pub column_run : (c : ℕ) (o : Place) (s : State ℕ) → c < n → get_or inputs c 0 ≤ 1 → Stands k m (live_before bit m c) o s →
        Stands k m (live_before bit m (suc c)) (onto (doubled (get_or inputs c 0) o) (λ d. scan (λ v. bit v c) m d))
        (run inputs (column k m bit c) s)
    unfolding column ones_in
    column_run c o s l b here =
        let h : ℕ = live_before bit m c in
        let g : ℕ = live_before bit m (suc c) in
        let w : ℕ = sum_to m (λ v. bit v c) in
        let before : List Instruction = split k m c h in
        let rows : List Instruction = marks k m (λ v. bit v c) m 0 in
        let s' : State ℕ = run inputs before s in
        let read : Place = doubled (get_or inputs c 0) o in
        let after : Place = onto read (λ d. scan (λ v. bit v c) m d) in
        let few = live-le bit m c roomy.some_rows in
        let next = live-next m n bit roomy c l in
        let e : w + 0 ≡ w = omega arith in
        let met : Scans k m (2 * h) w after (run inputs rows s') =
        rw e at (marks_run (2 * h) (λ v. bit v c) m (λ v u. roomy.bits v c u l) read 0 s' (omega arith) (split_run c h o s b few here)) in
        rw (exec_append bit_gates inputs (before ++ rows) (keep k m w g) s, exec_append bit_gates inputs before rows s)
        (keep_run w (2 * h) g after (run inputs rows s') next (live-le bit m (suc c) roomy.some_rows) met)
