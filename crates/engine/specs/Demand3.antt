-- Demand 3: over all 2^n strings the compiled program gives sample v exactly p_v times and misses 2^n - T times; of two matrices with as
-- many rows and columns, equal counts exactly when equal matrices. Assumes nothing.
use Rattle.std.specs.Prelude.{ℕ, ◌-◌, ◌^◌, ◌≤◌, ◌<◌, ◌≡◌, refl, List, ◌↔◌, get_or, replicate}
use Rattle.std.proofs.Common.{sym, ap, ◌∙◌, ⊎_elim, arith}
use Rattle.std.proofs.lemmas.List.{length-replicate}
use Rattle.std.proofs.Math.ListN.{get_or-eq_default}
use Rattle.laws.specs.Tests.{lt-or_ge}
use Rattle.laws.specs.Words.{bit_at}
use Rattle.laws.specs.Outcome.{gives, gives_inj}
use Rattle.files.specs.Matrix.{Matrix, p, total}
use Rattle.files.specs.Files.{matrix_of}
use Rattle.files.specs.RoundTrip.{read_accepted, read_write}
use Rattle.walk.specs.Walk.{sample, drawn, answer_of, hits, misses, Drawn, hit, miss}
use Rattle.walk.specs.Strings.{Bits, strings, count, count-eq}
use Rattle.walk.specs.Theorems.{hits-row, misses-rest, hit-inside, equal_rows}
use Rattle.lanes.specs.Slicing.{lanes}
use Rattle.compiler.specs.Translation.{program, compiled}
use Rattle.engine.specs.Given.{Choice, Fair, given, says, says_miss}
use Rattle.engine.specs.Lanewise.{lane-draws}

-- ---- answers and walks
pub says-hits : (v : ℕ) (d : Drawn) → says v (gives (answer_of d)) ≡ hits v d
unfolding says hits
says-hits v (hit u c) = refl
says-hits v miss = refl

says-misses : (d : Drawn) → says_miss (gives (answer_of d)) ≡ misses d
unfolding says_miss misses
says-misses (hit u c) = refl
says-misses miss = refl

below_rows_lem : (M : Matrix) (s : List ℕ) (v : ℕ) (d : Drawn) → drawn M s ≡ d → answer_of d ≡ sample v → v < M.rows
below_rows_lem M s v (hit u c) e q =
    let z : u ≡ v = cc in
    omega (arith, (hit-inside M s u c e).0)
below_rows_lem M s v miss e q = absurd (let z : ◌≡◌ {A = ℕ} 0 1 = cc in omega arith)

-- ---- a matrix file, and lane, other lanes, earlier contents and budget chosen anew for each string of n bits
module _ (file : List ℕ) (M : Matrix) (e : matrix_of file ≡ gives M) (choose : List ℕ → Choice)
    (fair : (s : List ℕ) → Bits M.columns s → Fair (program M) s (choose s)) where
  -- the program gives for each string what the walk draws: sample v on exactly the strings on which the walk hits row v
  pub demand_3_walk : (s : List ℕ) → Bits M.columns s → given (compiled M) (choose s) ≡ gives (answer_of (drawn M s))
  demand_3_walk s b = lane-draws M (read_accepted file M e) s b.long (choose s) (fair s b)

  -- sample v is given p_v times, for each v from 0 to m - 1
  pub demand_3_samples : (v : ℕ) → v < M.rows → count (λ s. says v (given (compiled M) (choose s))) (strings M.columns) ≡ p M v
  demand_3_samples v h =
      count-eq M.columns (λ s. says v (given (compiled M) (choose s))) (λ s. hits v (drawn M s))
      (λ s b. ap (says v) (demand_3_walk s b) ∙ says-hits v (drawn M s)) ∙
      hits-row M (read_accepted file M e) v h

  -- 2^n - T strings miss
  pub demand_3_misses : count (λ s. says_miss (given (compiled M) (choose s))) (strings M.columns) ≡ 2 ^ M.columns - total M
  demand_3_misses =
      count-eq M.columns (λ s. says_miss (given (compiled M) (choose s))) (λ s. misses (drawn M s))
      (λ s b. ap says_miss (demand_3_walk s b) ∙ says-misses (drawn M s)) ∙
      misses-rest M (read_accepted file M e)

  -- no other number is ever given
  pub demand_3_no_other : (s : List ℕ) (v : ℕ) → Bits M.columns s → given (compiled M) (choose s) ≡ gives (sample v) → v < M.rows
  demand_3_no_other s v b q = below_rows_lem M s v (drawn M s) refl (gives_inj (sym (demand_3_walk s b) ∙ q))

-- ---- two accepted matrices with equal m and n are equal exactly when their compiled programs give each sample equally often
module _ (file file' : List ℕ) (M M' : Matrix) (e : matrix_of file ≡ gives M) (e' : matrix_of file' ≡ gives M') (m : M.rows ≡ M'.rows)
    (n : M.columns ≡ M'.columns) (choose choose' : List ℕ → Choice)
    (fair : (s : List ℕ) → Bits M.columns s → Fair (program M) s (choose s))
    (fair' : (s : List ℕ) → Bits M'.columns s → Fair (program M') s (choose' s)) where
  pub demand_3_equal : (M ≡ M') ↔
      ((v : ℕ) → v < M.rows → count (λ s. says v (given (compiled M) (choose s))) (strings M.columns) ≡
      count (λ s. says v (given (compiled M') (choose' s))) (strings M'.columns))
  demand_3_equal =
      let rows = equal_rows M M' (read_accepted file M e) (read_accepted file' M' e') m n in
      let counts = demand_3_samples file M e choose fair in
      let counts' = demand_3_samples file' M' e' choose' fair' in (
        (λ q v l. counts v l ∙ (rows.0 q v l ∙ sym (counts' v (omega arith)))),
        (λ q. rows.1 (λ v l. sym (counts v l) ∙ (q v l ∙ counts' v (omega arith)))),
      )

  -- and so are their files
  pub demand_3_equal_files : ((i : ℕ) → get_or file i 0 < 256) → ((i : ℕ) → get_or file' i 0 < 256) → (file ≡ file') ↔ (M ≡ M')
  demand_3_equal_files a a' = (
    (λ q. gives_inj (sym e ∙ (ap matrix_of q ∙ e'))),
    (λ q. sym (read_write file a M e) ∙ (ap Rattle.files.specs.Files.matrix_file q ∙ read_write file' a' M' e')),
  )

-- ---- there is such a choice for every accepted matrix: lane 0 of words that are the string's bits, nothing but zeros before, and just the
-- budget needed
pub low_bit : (x : ℕ) → x ≤ 1 → bit_at x 0 ≡ x
unfolding bit_at
low_bit x h = omega arith

abbrev pub plainly : Matrix → List ℕ → Choice
plainly M s =
    record {
      lane = 0;
      inputs = s;
      registers = replicate (program M).registers 0;
      outputs = replicate (program M).outputs 0;
      budget = (program M).count;
    }

pub plainly_fair : (M : Matrix) (s : List ℕ) → Bits M.columns s → Fair (program M) s (plainly M s)
unfolding program
plainly_fair M s b =
    record {
      in_word = omega arith;
      words =
          λ i. ⊎_elim (λ (l : i < M.columns). omega (arith, b.each i l)) (λ (l : M.columns ≤ i). beyond i l) (lt-or_ge i M.columns);
      carries = λ i l. low_bit (get_or s i 0) (b.each i l);
      inputs_there = omega (arith, b.long);
      registers_there = omega (arith, length-replicate {A = ℕ} (program M).registers 0);
      outputs_there = omega (arith, length-replicate {A = ℕ} (program M).outputs 0);
      enough = omega arith;
    }
  where
    beyond : (i : ℕ) → M.columns ≤ i → get_or s i 0 < 2 ^ lanes
    beyond i l = rw (get_or-eq_default s 0 {n = i} (omega (arith, b.long))) (omega arith)
