-- Slicing 64 strings, running the compiled program and reading samples gives for each string the walk's row, or 255; signed likewise.
-- Assumes nothing.
use Rattle.std.specs.Prelude.{ℕ, ◌*◌, ◌^◌, ◌≤◌, ◌<◌, ◌≡◌, List, length, get_or}
use Rattle.std.proofs.Common.{sym, ap, ◌∙◌, ⊎_elim, arith}
use Rattle.std.proofs.Math.ListN.{get_or-eq_default}
use Rattle.laws.specs.Tests.{lt-or_ge}
use Rattle.laws.specs.Words.{bit_at}
use Rattle.laws.specs.Lists.{upto, upto-eq, get_d_upto, length-upto}
use Rattle.laws.specs.Outcome.{gives, mapped, ◌>>=◌, gives_inj}
use Rattle.fields.specs.Fields.{width, bit_of}
use Rattle.files.specs.Matrix.{Matrix}
use Rattle.files.specs.Files.{matrix_of}
use Rattle.fields.specs.Strings.{strings_of}
use Rattle.files.specs.RoundTrip.{read_accepted}
use Rattle.machine.specs.Runs.{start_of}
use Rattle.walk.specs.Walk.{Answer, drawn, answer_of, walk_of}
use Rattle.lanes.specs.Slicing.{lanes, string_at, string_bits, word_of}
use Rattle.lanes.specs.Samples.{sample_of, code, signed_code, each_lane, samples_of, signed_samples_of, lanes_give}
use Rattle.lanes.specs.Lanes.{lane_of_word, word_lt}
use Rattle.spent.specs.Theorems.{string-walked}
use Rattle.compiler.specs.Translation.{program, compiled}
use Rattle.compiler.specs.Compiled.{header-rows}
use Rattle.engine.specs.Given.{Choice, Fair, given}
use Rattle.engine.specs.Lanewise.{Starts, starts, lane-draws}

-- the words that slicing lays down
abbrev pub sliced_words : ℕ → List ℕ → List ℕ
sliced_words n strings = upto n (word_of strings (width n))

-- what string j of 64 gives: the walk's row, or a miss
abbrev pub drawn_at : Matrix → List ℕ → ℕ → Answer
drawn_at M strings j = answer_of (drawn M (string_bits M.columns strings j))

pub words_small : (n : ℕ) (strings : List ℕ) (i : ℕ) → get_or (sliced_words n strings) i 0 < 2 ^ lanes
words_small n strings i =
    ⊎_elim (λ (l : i < n). rw (get_d_upto n (word_of strings (width n)) i 0 l) (word_lt strings (width n) i))
    (λ (l : n ≤ i).
    rw (get_or-eq_default (sliced_words n strings) 0 {n = i} (omega (arith, length-upto n (word_of strings (width n))))) (omega arith))
    (lt-or_ge i n)

lane-string : (n : ℕ) (strings : List ℕ) (j i : ℕ) → j < lanes → i < n →
    bit_at (get_or (sliced_words n strings) i 0) j ≡ get_or (string_bits n strings j) i 0
lane-string n strings j i h l =
    ap (λ (x : ℕ). bit_at x j) (get_d_upto n (word_of strings (width n)) i 0 l) ∙
    (lane_of_word strings (width n) i j h ∙ sym (get_d_upto n (bit_of strings (j * width n)) i 0 l))

module _ (file : List ℕ) (M : Matrix) (e : matrix_of file ≡ gives M) (strings : List ℕ) where
  -- what a string gives is what walking the file on it, packed by itself, comes to
  pub string-drawn : strings_of lanes M.columns strings ≡ gives tt → (j : ℕ) → j < lanes →
      mapped (λ w. w.answer) (walk_of file (string_at M.columns strings j)) ≡ gives (drawn_at M strings j)
  string-drawn s j h = ap (mapped (λ w. w.answer)) (string-walked file M e strings s j h)

  module _ (registers outputs : List ℕ) (budget room : ℕ) (r : (program M).registers ≤ length registers)
      (o : (program M).outputs ≤ length outputs) (enough : (program M).count ≤ budget) (space : lanes ≤ room) where
    abbrev chosen : ℕ → Choice
    chosen j =
        record { lane = j; inputs = sliced_words M.columns strings; registers = registers; outputs = outputs; budget = budget }

    fair : (j : ℕ) → j < lanes → Fair (program M) (string_bits M.columns strings j) (chosen j)
    unfolding program
    fair j h =
        record {
          in_word = h;
          words = words_small M.columns strings;
          carries = λ i l. lane-string M.columns strings j i h l;
          inputs_there = omega (arith, length-upto M.columns (word_of strings (width M.columns)));
          registers_there = r;
          outputs_there = o;
          enough = enough;
        }

    bits-many : (j : ℕ) → length (string_bits M.columns strings j) ≡ M.columns
    bits-many j = length-upto M.columns (bit_of strings (j * width M.columns))

    -- where the start ends, whichever lane is looked at
    ending : Starts M (chosen 0)
    ending = starts M (read_accepted file M e) _ (bits-many 0) (chosen 0) (fair 0 (omega arith))

    abbrev left : List ℕ
    left = ending.ended.state.outputs

    lane-left : (j : ℕ) → j < lanes → sample_of M.rows left j ≡ drawn_at M strings j
    unfolding given
    lane-left j h =
        let a = read_accepted file M e in
        gives_inj (rw (ending.is, header-rows M a) at (lane-draws M a _ (bits-many j) (chosen j) (fair j h)))

    -- reading one number from each lane, whatever is made of what it gives
    each_lane_lem : {A : Type 0} (f : ℕ → Answer → A) →
        (start_of (compiled M) (sliced_words M.columns strings) registers outputs budget >>=
        (λ x. each_lane M.rows x.state.outputs room (λ j. f j (sample_of M.rows x.state.outputs j)))) ≡
        gives (upto lanes (λ j. f j (drawn_at M strings j)))
    each_lane_lem f =
        rw ending.is
        (lanes_give M.rows left room (λ j. f j (sample_of M.rows left j)) ending.suits space ∙
        ap gives (upto-eq lanes (λ j. f j (sample_of M.rows left j)) (λ j. f j (drawn_at M strings j)) (λ j h. ap (f j) (lane-left j h))))

    -- sample j is that of the walk on string j
    pub batch_samples :
        (start_of (compiled M) (sliced_words M.columns strings) registers outputs budget >>=
        (λ x. samples_of M.rows x.state.outputs room)) ≡
        gives (upto lanes (λ j. code (drawn_at M strings j)))
    batch_samples = each_lane_lem (λ j g. code g)

    -- and signed, with a sign word
    pub batch-signed : (sign : ℕ) →
        (start_of (compiled M) (sliced_words M.columns strings) registers outputs budget >>=
        (λ x. signed_samples_of M.rows x.state.outputs sign room)) ≡
        gives (upto lanes (λ j. signed_code (bit_at sign j) (drawn_at M strings j)))
    batch-signed sign = each_lane_lem (λ j g. signed_code (bit_at sign j) g)
