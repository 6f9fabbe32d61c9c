-- One lane of a compiled program computes the walk: what its outputs spell is what the walk draws, whatever registers and outputs held
-- before; and a start of it with budget enough runs to the end (01, "What a compiled program gives for a string"). Assumes nothing.
use Prim.Native.Nat.{ℕ, ◌+◌, ◌*◌, ◌/◌, ◌%◌, ◌^◌, ◌≤◌, ◌<◌}
use Rattle.std.specs.Prelude.{◌≡◌, cond, ◌↔◌, eqb}
use Rattle.std.proofs.Math.Path.{refl}
use Rattle.std.proofs.Common.{sym, ap, ◌∙◌}
use mathlib.Core.List.{List, [], ◌∷◌, ◌++◌}
use native.Mathlib.Omega.{arith}
use Rattle.std.proofs.Math.ListN.{length, get_or}
use Rattle.laws.specs.Words.{bit_at, pack, pack-eq, pack-bits}
use Rattle.laws.specs.Lists.{blocks, upto, each-blocks}
use Rattle.laws.specs.Outcome.{gives, gives_inj}
use Rattle.files.specs.Matrix.{Matrix, Accepted, bit}
use Rattle.programs.specs.declared.description.Instruction.{Instruction}
use Rattle.programs.specs.declared.description.Instruction.TheVariants.{Ones, Zero, Output}
use Rattle.walk.specs.Walk.{Place, Drawn, hit, miss, left, Answer, sample, missed, answer_of, drawn}
use Rattle.machine.specs.Meaning.{Gates, bit_gates, State, exec, exec_append}
use Rattle.machine.specs.Runs.{Ended, start_on}
use Rattle.machine.specs.Resuming.{whole_run}
use Rattle.machine.proofs.Resuming.{start-whole}
use Rattle.machine.specs.Calls.{cleared, sized-cleared}
use Rattle.compiler.specs.Translation.{reg_h, reg_v, reg_x, clear, begin, tell, end, live_before, column}
use Rattle.compiler.specs.Translation.{translation, program, compiled}
use Rattle.programs.specs.Width.{row_bits, row_lt}
use Rattle.compiler.specs.Room.{Roomy, accepted-roomy}
use Rattle.compiler.specs.Compiled.{compiled_code, inputs_are, compiled-accepted}
use Rattle.compiler.specs.Places.{hit_bit, sample_bit, answer_at, same, is_at, place_after, walk_answer, below-answer, place_below}
use Rattle.compiler.specs.Effects.{reg, out, Passes, run, still_long, still_wide, writes-first, output_first}
use Rattle.compiler.specs.Effects.{blocks_still, blocks_leave, blocks_pass, blocks_lead}
use Rattle.compiler.specs.Columns.{Stands, column_run}

-- what 1 + k outputs of a lane give: a sample where output 0 is set, spelled by the others, lowest first (01, "Runs, words, samples")
unfoldable pub given_by : ℕ → (ℕ → ℕ) → Answer
given_by k output = cond (eqb (output 0) 1) (sample (pack k (λ t. output (t + 1)))) missed

-- the string that a lane of inputs carries
abbrev pub lane_inputs : Matrix → List ℕ → List ℕ
lane_inputs M inputs = upto M.columns (λ i. get_or inputs i 0)

-- ---- outputs that hold an answer bit by bit give it
pub given_is : (k : ℕ) (output : ℕ → ℕ) (x : Answer) → output 0 ≡ hit_bit x → ((t : ℕ) → t < k → output (1 + t) ≡ sample_bit t x) →
    ((v : ℕ) → x ≡ sample v → v < 2 ^ k) → given_by k output ≡ x
unfolding given_by bit_at
given_is k output (sample v) e f b =
    let spelled : pack k (λ t. output (t + 1)) ≡ pack k (bit_at v) =
    pack-eq k (λ t. output (t + 1)) (bit_at v) (λ t l. ap output (omega arith) ∙ f t l) in
    rw e (ap sample (spelled ∙ pack-bits k v (b v refl)))
given_is k output missed e f b = rw e refl

-- ---- from the beginning of the translation to its outputs
module _ (inputs : List ℕ) (k m : ℕ) where
  -- whatever the registers held
  begin_run : (s : State ℕ) → 1 ≤ m → 3 + k + 3 * m ≤ length s.registers → Stands k m 1 (left 0) (run inputs (begin k) s)
  unfolding exec answer_at is_at same
  begin_run s some long =
      let one : List Instruction = Ones (reg_x k 0) ∷ [] in
      let two : List Instruction = Ones (reg_x k 0) ∷ Zero reg_h ∷ [] in
      let s' : State ℕ = run inputs two s in
      let long₁ = still_long inputs one s (3 + k + 3 * m) long in
      let long₂ = still_long inputs two s (3 + k + 3 * m) long in
      record {
        tells =
            record {
              long = still_long inputs (blocks k clear) s' (3 + k + 3 * m) long₂;
              at_h = blocks_still inputs reg_h clear s' k (λ t l. omega arith) ∙
                  writes-first inputs (Zero reg_h) [] (run inputs one s) reg_h refl (omega arith) tt;
              at_v = λ t l. blocks_leave inputs (reg_v t) clear s' k t l (λ u a b. ((omega arith, tt), tt)) ∙
                  writes-first inputs (Zero (reg_v t)) [] (run inputs (blocks t clear) s') (reg_v t) refl
                  (omega (arith, still_long inputs (blocks t clear) s' (3 + k + 3 * m) long₂)) tt;
            };
        at_x = λ i l. let e : i ≡ 0 = omega arith in
            rw e
            (blocks_still inputs (reg_x k 0) clear s' k (λ t u. omega arith) ∙
            writes-first inputs (Ones (reg_x k 0)) (Zero reg_h ∷ []) s (reg_x k 0) refl (omega arith) ((omega arith, tt), tt));
      }

  end-hit : (s : State ℕ) → 1 + k ≤ length s.outputs → out 0 (run inputs (end k) s) ≡ reg reg_h s
  end-hit s wide =
      output_first inputs 0 reg_h (blocks k tell) s (omega arith) (each-blocks (Passes 0) tell k (λ t l. ((omega arith, tt), tt)))

  end_row : (s : State ℕ) → 1 + k ≤ length s.outputs → (t : ℕ) → t < k → out (1 + t) (run inputs (end k) s) ≡ reg (reg_v t) s
  unfolding exec
  end_row s wide t l =
      let one : List Instruction = Output 0 reg_h ∷ [] in
      let s' : State ℕ = run inputs one s in
      let wide' : 1 + k ≤ length s'.outputs = still_wide inputs one s (1 + k) wide in
      blocks_pass inputs (1 + t) tell s' k t l (λ u a b. ((omega arith, tt), tt)) ∙
      (output_first inputs (1 + t) (reg_v t) [] (run inputs (blocks t tell) s')
      (omega (arith, still_wide inputs (blocks t tell) s' (1 + k) wide')) tt ∙
      blocks_still inputs (reg_v t) tell s' t (λ u a. (tt, tt)))

  -- ---- the columns, one after another: the state that the outputs are taken from
  module _ (n : ℕ) (bit : ℕ → ℕ → ℕ) (roomy : Roomy m n bit) (ok : (c : ℕ) → c < n → get_or inputs c 0 ≤ 1) where
    columns_run : (s : State ℕ) → 3 + k + 3 * m ≤ length s.registers →
        Stands k m (live_before bit m n) (place_after bit m (λ i. get_or inputs i 0) n)
        (run inputs (begin k ++ blocks n (column k m bit)) s)
    unfolding place_after live_before
    columns_run s long =
        let at : ℕ → Place = place_after bit m (λ i. get_or inputs i 0) in
        rw (exec_append bit_gates inputs (begin k) (blocks n (column k m bit)) s)
        (blocks_lead inputs (column k m bit) (run inputs (begin k) s) (λ c t. Stands k m (live_before bit m c) (at c) t) n
        (λ c t l x. column_run inputs k m n bit roomy c (at c) t l (ok c l) x) (begin_run s roomy.some_rows long))

-- ---- what is told of a hit and of a miss
drawn-hit : (d : Drawn) → hit_bit (answer_of d) ≡ 1 → (v : ℕ) × ((c : ℕ) × (d ≡ hit v c))
drawn-hit (hit v c) e = (v, (c, refl))
drawn-hit miss e = absurd (omega arith)

drawn_miss : (d : Drawn) → hit_bit (answer_of d) ≡ 0 → d ≡ miss
drawn_miss (hit v c) e = absurd (omega arith)
drawn_miss miss e = refl

-- ---- the walk on the string that a lane carries
module _ (M : Matrix) (inputs : List ℕ) where
  abbrev came : Place
  came = place_after (bit M) M.rows (λ i. get_or inputs i 0) M.columns

  came_answer : answer_of (drawn M (lane_inputs M inputs)) ≡ answer_at came
  unfolding drawn
  came_answer = walk_answer (bit M) M.rows (λ i. get_or inputs i 0) M.columns

  -- a row that it draws is one of the m, so its number has k bits
  row-spelled : (v : ℕ) → answer_of (drawn M (lane_inputs M inputs)) ≡ sample v → v < 2 ^ row_bits M.rows
  row-spelled v e =
      row_lt M.rows v
      (below-answer M.rows v came (sym came_answer ∙ e) (place_below (bit M) M.rows (λ i. get_or inputs i 0) M.columns))

-- ---- the theorems: for an accepted matrix, a lane of bits, registers and outputs at least as many as the header names, anything in them
-- before
module _ (M : Matrix) (a : Accepted M) (inputs : List ℕ) (ok : (c : ℕ) → c < M.columns → get_or inputs c 0 ≤ 1) (s : State ℕ)
    (long : (program M).registers ≤ length s.registers) (wide : (program M).outputs ≤ length s.outputs) where
  -- the outputs after the whole program
  abbrev pub ends : ℕ → ℕ
  ends o = get_or (exec bit_gates inputs (translation M) s).outputs o 0

  abbrev pub draws : Drawn
  draws = drawn M (lane_inputs M inputs)

  -- output 0 says whether the walk hits, and outputs 1 and up the bits of the row that it hits, lowest first
  pub computes : (ends 0 ≡ hit_bit (answer_of draws)) × ((t : ℕ) → t < row_bits M.rows → ends (1 + t) ≡ sample_bit t (answer_of draws))
  unfolding translation program
  computes =
      let k : ℕ = row_bits M.rows in
      let m : ℕ = M.rows in
      let before = begin k ++ blocks M.columns (column k m (bit M)) in
      let s' : State ℕ = run inputs before s in
      let wide' : 1 + k ≤ length s'.outputs = still_wide inputs before s (1 + k) wide in
      let here : Stands k m (live_before (bit M) m M.columns) (came M inputs) s' =
      columns_run inputs k m M.columns (bit M) (accepted-roomy M a) ok s long in
      rw (exec_append bit_gates inputs before (end k) s, came_answer M inputs) (
        end-hit inputs k m s' wide' ∙ here.tells.at_h,
        (λ t l. end_row inputs k m s' wide' t l ∙ here.tells.at_v t l),
      )

  -- in one equation: what the outputs give is what the walk draws
  pub gives_walk : given_by (row_bits M.rows) ends ≡ answer_of draws
  gives_walk = given_is (row_bits M.rows) ends (answer_of draws) computes.0 computes.1 (row-spelled M inputs)

  -- in plain words: output 0 is set exactly when the walk hits, and clear exactly when it misses
  pub set_iff_hit : (ends 0 ≡ 1) ↔ ((v : ℕ) × ((c : ℕ) × (draws ≡ hit v c)))
  set_iff_hit = ((λ e. drawn-hit draws (sym computes.0 ∙ e)), (λ x. computes.0 ∙ rw x.1.1))

  pub clear_iff_miss : (ends 0 ≡ 0) ↔ (draws ≡ miss)
  clear_iff_miss = ((λ e. drawn_miss draws (sym computes.0 ∙ e)), (λ x. computes.0 ∙ rw x))

  -- the bits of the row that is hit, and 0 on a miss
  pub row-bits : (v c t : ℕ) → draws ≡ hit v c → t < row_bits M.rows → ends (1 + t) ≡ v / 2 ^ t % 2
  row-bits v c t e l = computes.1 t l ∙ rw e

  pub miss_bits : (t : ℕ) → draws ≡ miss → t < row_bits M.rows → ends (1 + t) ≡ 0
  miss_bits t e l = computes.1 t l ∙ rw e

-- ---- a start with a budget no smaller than the instruction count: never refused, it runs to the end
pub start-compiled : {A : Type 0} (G : Gates A) (M : Matrix) → Accepted M → (inputs registers outputs : List A) (budget : ℕ) →
    (program M).inputs ≤ length inputs → (program M).registers ≤ length registers → (program M).outputs ≤ length outputs →
    (program M).count ≤ budget →
    start_on G (compiled M) inputs registers outputs budget ≡ gives (whole_run G (compiled_code M) inputs budget (cleared G (program M)))
start-compiled G M a inputs registers outputs budget i r o enough =
    start-whole G (compiled M) inputs registers outputs budget (compiled_code M) (compiled-accepted M a)
    (record { for_inputs = i; for_registers = r; for_outputs = o }) enough

-- what one lane of it gives: bits in the n inputs, and anything in registers and outputs before
pub start_gives : (M : Matrix) → Accepted M → (inputs registers outputs : List ℕ) (budget : ℕ) →
    ((c : ℕ) → c < M.columns → get_or inputs c 0 ≤ 1) → M.columns ≤ length inputs → (program M).registers ≤ length registers →
    (program M).outputs ≤ length outputs → (program M).count ≤ budget →
    (e : Ended ℕ) → start_on bit_gates (compiled M) inputs registers outputs budget ≡ gives e →
    given_by (row_bits M.rows) (λ o. get_or e.state.outputs o 0) ≡ answer_of (drawn M (lane_inputs M inputs))
start_gives M a inputs registers outputs budget ok i r o enough e q =
    let whole = start-compiled bit_gates M a inputs registers outputs budget (rw (inputs_are M) i) r o enough in
    let sized = sized-cleared bit_gates (program M) in
    ap (λ (x : Ended ℕ). given_by (row_bits M.rows) (λ o. get_or x.state.outputs o 0)) (gives_inj (sym q ∙ whole)) ∙
    gives_walk M a inputs ok (cleared bit_gates (program M)) (omega (arith, sized.of_registers)) (omega (arith, sized.of_outputs))
