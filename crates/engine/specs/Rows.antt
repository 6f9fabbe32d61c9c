-- 02, order 10: with any program and any words no sample at or above the rows of the header is given, and compiled programs, given their
-- own rows, sample as they did without. Assumes nothing.
use Rattle.std.specs.Prelude.{ℕ, ◌+◌, ◌^◌, ◌≤◌, ◌<◌, ◌≡◌, false, ◌⊎◌, ltb, ℤ, pos, nat_abs, get_or, take, replicate}
use Rattle.std.proofs.Common.{sym, ◌∙◌, arith, eq-eqb, ne_eqb, le-ltb}
use Rattle.std.proofs.Math.Path.{ap}
use mathlib.Core.List.{List}
use Rattle.std.proofs.Math.ListN.{length}
use Rattle.laws.specs.Words.{bit_at}
use Rattle.laws.specs.Lists.{upto, upto-eq, length-upto}
use Rattle.laws.specs.Lay.{lay, take-lay}
use Rattle.laws.specs.Outcome.{Outcome, refused, gives, refuse, mapped, ◌>>◌, ◌>>=◌, bound, passed, gives_inj, bind_eq}
use Rattle.fields.specs.Fields.{field_of, width}
use Rattle.fields.specs.Limits.{outside, inside}
use Rattle.files.specs.Matrix.{Matrix}
use Rattle.files.specs.Files.{matrix_of}
use Rattle.files.specs.RoundTrip.{read_accepted}
use Rattle.programs.specs.Width.{row_bits, few_bits}
use Rattle.programs.specs.Limits.{most_outputs, most_rows, suited}
use Rattle.programs.specs.Header.{header_length, header_kind, numbers_of, header_under, limits_under}
use Rattle.programs.specs.Reading.{within_means, within-not}
use Rattle.programs.specs.Inverse.{header-reads}
use Rattle.checker.specs.Checks.{Code, check_under, check_of}
use Rattle.checker.specs.Checking.{check_says}
use Rattle.machine.specs.Meaning.{word_gates}
use Rattle.machine.specs.Runs.{start_of}
use Rattle.machine.specs.Resuming.{started, onward, together, all_budgets}
use Rattle.machine.proofs.Resuming.{start-onward}
use Rattle.walk.specs.Walk.{Answer}
use Rattle.lanes.specs.Slicing.{lanes, slice_of, word_of}
use Rattle.lanes.specs.Samples.{lane_says, sample_of, code, signed_code, each_lane, samples_of, signed_samples_of}
use Rattle.lanes.specs.Lanes.{cut, samples_below, signed_below}
use Rattle.compiler.specs.Translation.{program, compiled}
use Rattle.compiler.specs.Compiled.{inputs_are, outputs-are, rows_are}
use Rattle.drawing.specs.Drawing.{drawn_under, drawn_with, draw_of, draw_signed_of}
use Rattle.engine.specs.Lanewise.{Starts, starts, lane_as_said}
use Rattle.engine.specs.Demand2.{compiled-is-accepted, chosen, fair, bits-many}
use Rattle.engine.specs.Batches.{words_small}
use Rattle.engine.specs.Draws.{own}

-- ---- reading samples without rows, to compare with; no contract cites it: 3 for the number of output words alone, and no lane misses for
-- what it spells
unfoldable pub each_lane_before : {A : Type 0} → List ℕ → ℕ → (ℕ → A) → Outcome (List A)
each_lane_before outputs room number = do
  refuse 3 (outside most_outputs (length outputs))
  refuse 13 (ltb room lanes)
  gives (upto lanes number)

abbrev pub samples_before : List ℕ → ℕ → Outcome (List ℕ)
samples_before outputs room = each_lane_before outputs room (λ j. code (lane_says outputs j))

abbrev pub signed_before : List ℕ → ℕ → ℕ → Outcome (List ℤ)
signed_before outputs sign room = each_lane_before outputs room (λ j. signed_code (bit_at sign j) (lane_says outputs j))

-- ---- a program's header
-- An accepted program has 1 to 128 rows, and its outputs are their value bits plus 1.
pub accepted-rows : (file : List ℕ) (c : Code) → check_of file ≡ gives c →
    let p = c.program in
    (1 ≤ p.rows) × (p.rows ≤ most_rows) × (p.outputs ≡ 1 + row_bits p.rows)
accepted-rows file c e =
    let w = within_means c.program (header-reads file c.program (check_says file c e).0).inside in
    (w.some_rows, w.few_rows, w.outputs_suit)

-- Another header length than 16, as all program files before had it, is 4, whatever the numbers are.
pub other_length : (file : List ℕ) → header_length ≤ length file → field_of file 2 ≡ header_kind → (field_of file 0 ≡ header_length → ⊥) →
    check_of file ≡ refused 4
unfolding check_under header_under limits_under
other_length file h k l =
    rw (
      le-ltb (length file) 4 (omega arith),
      eq-eqb (field_of file 2) header_kind k,
      le-ltb (length file) header_length h,
      ne_eqb (field_of file 0) header_length l,
    )

-- Rows outside 1 to 128, or such that the outputs are not their value bits plus 1, are 3.
pub unsuited_rows : (file : List ℕ) → header_length ≤ length file → field_of file 2 ≡ header_kind → field_of file 0 ≡ header_length →
    suited (numbers_of file).rows (numbers_of file).outputs ≡ false → check_of file ≡ refused 3
unfolding check_under header_under limits_under
unsuited_rows file h k l u =
    rw (
      le-ltb (length file) 4 (omega arith),
      eq-eqb (field_of file 2) header_kind k,
      le-ltb (length file) header_length h,
      eq-eqb (field_of file 0) header_length l,
      within-not (numbers_of file) u,
    )

-- ---- any program, any words
-- what drawing gives is read from some outputs, of the rows in the header
pub draw-reads : {A : Type 0} (file strings : List ℕ) (room : ℕ) (read : ℕ → List ℕ → Outcome A) (a : A) →
    drawn_with file strings room read ≡ gives a → (outputs : List ℕ) × (read (numbers_of file).rows outputs ≡ gives a)
unfolding drawn_under
draw-reads file strings room read a e =
    let (c, ok, sliced) = bound (check_of file) _ a e in
    let p = c.program in
    let (words, cut, checked) = bound (slice_of p.inputs strings p.inputs) _ a sliced in
    let started = passed 13 (ltb room lanes) _ a checked in
    let (x, ran, is) = bound (start_of file words (replicate p.registers 0) (replicate p.outputs 0) p.count) _ a started.1 in
    let own = (header-reads file p (check_says file c ok).0).numbers in
    (x.state.outputs, rw own is)

-- no sample at or above rows is drawn: each is below them, or a miss
module _ (file strings : List ℕ) (room : ℕ) (j : ℕ) (h : j < lanes) where
  pub draw-below : (xs : List ℕ) → draw_of file strings room ≡ gives xs → (get_or xs j 0 < (numbers_of file).rows) ⊎ (get_or xs j 0 ≡ 255)
  draw-below xs e =
      let (outputs, is) = draw-reads file strings room (λ rows outputs. samples_of rows outputs room) xs e in
      samples_below (numbers_of file).rows outputs room j h xs is

  pub draw-signed-below : (sign : ℕ) (xs : List ℤ) → draw_signed_of file strings sign room ≡ gives xs →
      (nat_abs (get_or xs j (pos 0)) < (numbers_of file).rows) ⊎ (get_or xs j (pos 0) ≡ pos 32767)
  draw-signed-below sign xs e =
      let (outputs, is) = draw-reads file strings room (λ rows outputs. signed_samples_of rows outputs sign room) xs e in
      signed_below (numbers_of file).rows outputs room j h sign xs is

-- ---- compiled programs
module _ (file : List ℕ) (M : Matrix) (e : matrix_of file ≡ gives M) (inputs registers outputs : List ℕ)
    (small : (i : ℕ) → get_or inputs i 0 < 2 ^ lanes) (i : (program M).inputs ≤ length inputs)
    (r : (program M).registers ≤ length registers)
    (o : (program M).outputs ≤ length outputs) where
  -- lane by lane, after a start with budget enough: with their own rows they give what they gave without
  pub lane_as_before : (budget j : ℕ) → (program M).count ≤ budget → j < lanes →
      mapped (λ x. sample_of M.rows x.state.outputs j) (start_of (compiled M) inputs registers outputs budget) ≡
      mapped (λ x. lane_says x.state.outputs j) (start_of (compiled M) inputs registers outputs budget)
  lane_as_before budget j enough jl =
      let a = read_accepted file M e in
      let s = bits-many file M e inputs registers outputs small i r o j in
      let c = chosen file M e inputs registers outputs small i r o budget j in
      let f = fair file M e inputs registers outputs small i r o budget j enough jl in
      rw (starts M a _ s c f).is (ap gives (lane_as_said M a _ s c f))

  -- and after any stops too that are resumed as left
  pub stops_as_before : (b : ℕ) (bs : List ℕ) (j : ℕ) → b < 2 ^ 32 → (program M).count ≤ together b (all_budgets bs) → j < lanes →
      let ends = started word_gates (compiled M) inputs registers outputs b >>= (λ l. onward word_gates (compiled M) inputs l bs) in
      mapped (λ x. sample_of M.rows (take (program M).outputs x.outputs) j) ends ≡
      mapped (λ x. lane_says (take (program M).outputs x.outputs) j) ends
  stops_as_before b bs j h enough jl =
      let budget : ℕ = together b (all_budgets bs) in
      let a = read_accepted file M e in
      let s = bits-many file M e inputs registers outputs small i r o j in
      let c = chosen file M e inputs registers outputs small i r o budget j in
      let f = fair file M e inputs registers outputs small i r o budget j enough jl in
      let end = starts M a _ s c f in
      let front : take (program M).outputs (lay end.ended.state.outputs outputs) ≡ end.ended.state.outputs =
      take-lay (program M).outputs end.ended.state.outputs outputs (end.long ∙ sym (outputs-are M)) in
      rw (start-onward word_gates (compiled M) inputs registers outputs b bs h, end.is, front) (ap gives (lane_as_said M a _ s c f))

  -- so all that is read comes to what it came to, refused or laid down, whatever is made of what a lane gives
  module _ (budget : ℕ) (enough : (program M).count ≤ budget) (room : ℕ) where
    ending : Starts M (chosen file M e inputs registers outputs small i r o budget 0)
    ending =
        starts M (read_accepted file M e) _ (bits-many file M e inputs registers outputs small i r o 0) _
        (fair file M e inputs registers outputs small i r o budget 0 enough (omega arith))

    abbrev left : List ℕ
    left = ending.ended.state.outputs

    lane-left : (j : ℕ) → j < lanes → sample_of M.rows left j ≡ lane_says left j
    lane-left j h = gives_inj (rw ending.is at (lane_as_before budget j enough h))

    few : outside most_outputs (length left) ≡ false
    few =
        let k = few_bits M.rows (read_accepted file M e).few_rows in
        inside most_outputs (length left) (omega (arith, ending.long)) (omega (arith, ending.long, k))

    pub read_as_before : {A : Type 0} (f : ℕ → Answer → A) →
        (start_of (compiled M) inputs registers outputs budget >>=
        (λ x. each_lane M.rows x.state.outputs room (λ j. f j (sample_of M.rows x.state.outputs j)))) ≡
        (start_of (compiled M) inputs registers outputs budget >>=
        (λ x. each_lane_before x.state.outputs room (λ j. f j (lane_says x.state.outputs j))))
    unfolding each_lane each_lane_before
    read_as_before {A} f =
        rw (ending.is, ending.suits, few)
        (ap (λ (xs : List A). refuse 13 (ltb room lanes) >> gives xs)
        (upto-eq lanes (λ j. f j (sample_of M.rows left j)) (λ j. f j (lane_says left j)) (λ j h. ap (f j) (lane-left j h))))

    -- samples and signed samples
    pub samples_as_before :
        (start_of (compiled M) inputs registers outputs budget >>= (λ x. samples_of M.rows x.state.outputs room)) ≡
        (start_of (compiled M) inputs registers outputs budget >>= (λ x. samples_before x.state.outputs room))
    samples_as_before = read_as_before (λ j g. code g)

    pub signed_as_before : (sign : ℕ) →
        (start_of (compiled M) inputs registers outputs budget >>= (λ x. signed_samples_of M.rows x.state.outputs sign room)) ≡
        (start_of (compiled M) inputs registers outputs budget >>= (λ x. signed_before x.state.outputs sign room))
    signed_as_before sign = read_as_before (λ j g. signed_code (bit_at sign j) g)

-- ---- and all that is drawn, whatever the strings and the room are
module _ (file : List ℕ) (M : Matrix) (e : matrix_of file ≡ gives M) (strings : List ℕ) (room : ℕ) where
  drawn_as_before : {A : Type 0} (f : ℕ → Answer → A) →
      drawn_with (compiled M) strings room (λ rows outputs. each_lane rows outputs room (λ j. f j (sample_of rows outputs j))) ≡
      drawn_with (compiled M) strings room (λ rows outputs. each_lane_before outputs room (λ j. f j (lane_says outputs j)))
  unfolding drawn_under
  drawn_as_before {A} f =
      rw (compiled-is-accepted file M e, inputs_are M, rows_are M)
      (bind_eq (slice_of M.columns strings M.columns) _ _
      (λ words sliced.
      let is = (cut M.columns strings M.columns words sliced).is in
      let long : length words ≡ M.columns = ap length is ∙ length-upto M.columns (word_of strings (width M.columns)) in
      ap (λ (o : Outcome (List A)). refuse 13 (ltb room lanes) >> o)
      (read_as_before file M e words (replicate (program M).registers 0) (replicate (program M).outputs 0)
      (rw is (words_small M.columns strings)) (omega (arith, inputs_are M, long)) (own (program M).registers) (own (program M).outputs)
      (program M).count (omega arith) room f)))

  pub draw_as_before : draw_of (compiled M) strings room ≡
      drawn_with (compiled M) strings room (λ rows outputs. samples_before outputs room)
  draw_as_before = drawn_as_before (λ j g. code g)

  pub draw-signed_as_before : (sign : ℕ) →
      draw_signed_of (compiled M) strings sign room ≡ drawn_with (compiled M) strings room (λ rows outputs. signed_before outputs sign room)
  draw-signed_as_before sign = drawn_as_before (λ j g. signed_code (bit_at sign j) g)
