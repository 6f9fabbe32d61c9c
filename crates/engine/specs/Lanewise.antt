-- A lane of a compiled program's words gives what the walk draws on the string that the lane carries. Assumes nothing.
use Rattle.std.specs.Prelude.{ℕ, ◌+◌, ◌-◌, ◌<◌, true, List, map, length, take}
use mathlib.Core.Path.{◌≡◌, refl, sym, ap, ◌∙◌}
use Rattle.std.proofs.Common.{arith}
use Rattle.std.proofs.Math.ListN.{get_or, get_or-map}
use Rattle.std.proofs.lemmas.List.{length-replicate, length-map}
use Rattle.std.proofs.Math.Seq.{take-length}
use Rattle.laws.specs.Tests.{never}
use Rattle.laws.specs.Words.{bit_at, bit_at_lt, bit_at_zero}
use Rattle.laws.specs.Lists.{upto, upto-eq, take-is}
use Rattle.laws.specs.Outcome.{gives, mapped}
use Rattle.files.specs.Matrix.{Matrix, Accepted}
use Rattle.machine.specs.Meaning.{word_gates, bit_gates, exec, exec_long}
use Rattle.machine.specs.Runs.{Ended, start_of, start_on}
use Rattle.machine.specs.LaneLaw.{lane, map_ended}
use Rattle.machine.proofs.LaneLaw.{lane-start}
use Rattle.walk.specs.Walk.{sample, drawn, answer_of, is_miss, Drawn, hit, miss}
use Rattle.walk.specs.Theorems.{hit-inside}
use Rattle.lanes.specs.Samples.{lane_hits, spelled, lane_says, sample_of, code}
use Rattle.lanes.specs.Lanes.{lane-same}
use Rattle.programs.specs.Width.{row_bits}
use Rattle.programs.specs.Limits.{suited}
use Rattle.programs.specs.Reading.{suited-holds}
use Rattle.compiler.specs.Compiled.{inputs_are, outputs-are, header-rows}
use Rattle.compiler.specs.Translation.{translation, program, compiled}
use Rattle.compiler.specs.Computes.{given_by, lane_inputs}
use Rattle.compiler.specs.Computes.{start-compiled, start_gives}
use Rattle.machine.specs.Calls.{cleared}
use Rattle.engine.specs.Given.{Choice, Fair, given}

-- ---- a lane, projected and read
pub get_d_lane : (j : ℕ) (xs : List ℕ) (i : ℕ) → get_or (map (lane j) xs) i 0 ≡ bit_at (get_or xs i 0) j
get_d_lane j xs i = ap (get_or (map (lane j) xs) i) (sym (bit_at_zero j)) ∙ get_or-map (lane j) xs i 0

-- the sample that a lane of the output words spells is the one that the lane's bits give
lane-given : (outputs : List ℕ) (j k : ℕ) → length outputs ≡ 1 + k →
    lane_says outputs j ≡ given_by k (λ o. bit_at (get_or outputs o 0) j)
unfolding lane_says lane_hits spelled given_by
lane-given outputs j k e =
    let m : length outputs - 1 ≡ k = omega arith in
    rw m

given_eq : (k : ℕ) (f g : ℕ → ℕ) → ((o : ℕ) → f o ≡ g o) → given_by k f ≡ given_by k g
given_eq k f g e = ap (given_by k) (mathlib.Core.Path.fun_ext e)

-- a string of n bits, one by one
string-is : (n : ℕ) (s : List ℕ) → length s ≡ n → upto n (λ i. get_or s i 0) ≡ s
string-is n s e = sym (take-is 0 n s (omega arith)) ∙ (ap (λ (k : ℕ). take k s) (sym e) ∙ take-length s)

-- what a walk hits is a row
drawn-row : (M : Matrix) (s : List ℕ) (v : ℕ) (d : Drawn) → drawn M s ≡ d → answer_of d ≡ sample v → v < M.rows
drawn-row M s v (hit u c) e q =
    let is : u ≡ v = ap code q in
    omega (arith, (hit-inside M s u c e).0)
drawn-row M s v miss e q = never (sym (ap is_miss q))

-- ---- a start of a compiled program on a fair choice
-- where it ends: with the hit and the bits of a row number in its outputs
pub record Starts (M : Matrix) (c : Choice) : Type 0 where
  pub ended : Ended ℕ
  pub is : start_of (compiled M) c.inputs c.registers c.outputs c.budget ≡ gives ended
  pub long : length ended.state.outputs ≡ 1 + row_bits M.rows
  pub suits : suited M.rows (length ended.state.outputs) ≡ true

module _ (M : Matrix) (a : Accepted M) (s : List ℕ) (whole-string : length s ≡ M.columns) (c : Choice) (f : Fair (program M) s c) where
  abbrev many : length (exec word_gates c.inputs (translation M) (cleared word_gates (program M))).outputs ≡ 1 + row_bits M.rows
  many =
      (exec_long word_gates c.inputs (translation M) (cleared word_gates (program M))).1 ∙
      (length-replicate {A = ℕ} (program M).outputs 0 ∙ outputs-are M)

  pub starts : Starts M c
  starts =
      record {
        ended = _;
        is =
            start-compiled word_gates M a c.inputs c.registers c.outputs c.budget f.inputs_there f.registers_there
            f.outputs_there f.enough;
        long = many;
        suits = suited-holds M.rows _ a.some_rows a.few_rows many;
      }

  abbrev left : List ℕ
  left = starts.ended.state.outputs

  -- the lane's start, with bits for words
  abbrev projected : List ℕ → List ℕ
  projected = map (lane c.lane)

  lane-is : start_on bit_gates (compiled M) (projected c.inputs) (projected c.registers) (projected c.outputs) c.budget ≡
      gives (map_ended (lane c.lane) starts.ended)
  lane-is =
      sym (lane-start c.lane f.in_word c.inputs f.words (compiled M) c.registers c.outputs c.budget) ∙
      ap (mapped (map_ended (lane c.lane))) starts.is

  lane-carries : lane_inputs M (projected c.inputs) ≡ s
  unfolding program
  lane-carries =
      upto-eq M.columns (λ i. get_or (projected c.inputs) i 0) (λ i. get_or s i 0)
      (λ i l. get_d_lane c.lane c.inputs i ∙ f.carries i l) ∙
      string-is M.columns s whole-string

  -- the lane's bits of the outputs give what the walk draws on the string
  bits_give : given_by (row_bits M.rows) (λ o. get_or (projected left) o 0) ≡ answer_of (drawn M s)
  bits_give =
      start_gives M a (projected c.inputs) (projected c.registers) (projected c.outputs) c.budget
      (λ i l. rw (get_d_lane c.lane c.inputs i) (omega (arith, bit_at_lt (get_or c.inputs i 0) c.lane)))
      (rw (length-map c.inputs (lane c.lane)) (omega (arith, inputs_are M, f.inputs_there)))
      (rw (length-map c.registers (lane c.lane)) f.registers_there)
      (rw (length-map c.outputs (lane c.lane)) f.outputs_there) f.enough
      (map_ended (lane c.lane) starts.ended) lane-is ∙
      ap (λ (l : List ℕ). answer_of (drawn M l)) lane-carries

  -- so does the lane of the output words, whatever number it spells
  pub lane_said : lane_says left c.lane ≡ answer_of (drawn M s)
  lane_said =
      lane-given left c.lane (row_bits M.rows) starts.long ∙
      (given_eq (row_bits M.rows) (λ o. bit_at (get_or left o 0) c.lane) (λ o. get_or (projected left) o 0)
      (λ o. sym (get_d_lane c.lane left o)) ∙
      bits_give)

  -- which is always below the matrix's rows, so that reading it with these changes nothing (02, order 10)
  pub lane_as_said : sample_of M.rows left c.lane ≡ lane_says left c.lane
  lane_as_said = lane-same M.rows left c.lane (λ v e. drawn-row M s v (drawn M s) refl (sym lane_said ∙ e))

  pub lane-says : sample_of M.rows left c.lane ≡ answer_of (drawn M s)
  lane-says = lane_as_said ∙ lane_said

  pub lane-draws : given (compiled M) c ≡ gives (answer_of (drawn M s))
  unfolding given
  lane-draws = rw (starts.is, header-rows M a) (ap gives lane-says)
