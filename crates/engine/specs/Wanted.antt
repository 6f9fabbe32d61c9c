-- 02, order 7, of compiled programs: on the string for a row the program of that file gives the row, in every lane, whatever the other
-- lanes, what was there before, and stops that are resumed as left, with budgets that together are not below the count; on no smaller
-- string; and a row without a string is never given. Assumes nothing.
use Prim.Native.Nat.{ℕ, ◌*◌, ◌^◌, ◌≤◌, ◌<◌}
use Rattle.std.specs.Prelude.{◌≡◌, take}
use Rattle.std.proofs.Math.Path.{sym, ap}
use Rattle.std.proofs.Common.{◌∙◌, arith}
use Rattle.std.proofs.Math.Bool.{false}
use mathlib.Core.List.{List}
use Rattle.std.proofs.Math.Option.{none, some}
use borrow.Author.Tests.{le-ltb}
use Rattle.std.proofs.Math.Dec.{ltb}
use Rattle.std.proofs.Math.ListN.{length, get_or}
use Rattle.laws.specs.Sums.{any, any-all}
use Rattle.laws.specs.Lists.{blocks, upto, upto-eq, get_d_upto, length-blocks}
use Rattle.laws.specs.Outcome.{gives, mapped, ◌>>=◌, gives_inj}
use Rattle.fields.specs.Fields.{width, bit_of, padded, padded-below, padded-above, packed-bit, spare, spare-none}
use Rattle.fields.specs.Limits.{most_columns, inside}
use Rattle.fields.specs.Strings.{strings_under, strings_of}
use Rattle.files.specs.Matrix.{Matrix}
use Rattle.files.specs.Files.{matrix_of}
use Rattle.files.specs.RoundTrip.{read_accepted}
use Rattle.walk.specs.Walk.{sample, drawn, answer_of}
use Rattle.walk.specs.Strings.{Bits}
use Rattle.walk.specs.Numbers.{string_number}
use Rattle.walk.specs.Packed.{packed_string}
use Rattle.machine.specs.Meaning.{word_gates}
use Rattle.machine.specs.Resuming.{started, onward, together, all_budgets}
use Rattle.lanes.specs.Slicing.{lanes, string_at, string_bits}
use Rattle.lanes.specs.Samples.{sample_of, code}
use Rattle.lanes.specs.Lanes.{string-bit}
use Rattle.compiler.specs.Translation.{program, compiled, compile_of}
use Rattle.compiler.specs.Compiled.{compile_accepted}
use Rattle.drawing.specs.Drawing.{draw_of}
use Rattle.wanted.specs.Wanted.{wanted_of}
use Rattle.wanted.specs.Theorems.{SmallestString, never-hit}
use Rattle.wanted.specs.Files.{zero_iff, laid-long, laid-packed, laid-least, laid-draws}
use Rattle.engine.specs.Given.{lane_bits, Choice, Fair, given, says}
use Rattle.engine.specs.Lanewise.{lane-draws}
use Rattle.engine.specs.Demand2.{demand_2_stops}
use Rattle.engine.specs.Demand3.{says-hits}
use Rattle.engine.specs.Batches.{drawn_at}
use Rattle.engine.specs.Draws.{draw-walks}

module _ (file : List ℕ) (M : Matrix) (e : matrix_of file ≡ gives M) (space : ℕ) (program' : List ℕ)
    (c : compile_of file space ≡ gives program') (row room : ℕ) where
  is : program' ≡ compiled M
  is = (compile_accepted file program' space M e c).0

  -- what the program gives is what the walk draws
  given_is : (s : List ℕ) → Bits M.columns s → (choice : Choice) → Fair (program M) s choice →
      given program' choice ≡ gives (answer_of (drawn M s))
  given_is s b choice f =
      ap (λ (l : List ℕ). given l choice) is ∙ lane-draws M (read_accepted file M e) s b.long choice f

  -- a row without a string is never given
  pub none-given : wanted_of file row room ≡ gives none → (s : List ℕ) → Bits M.columns s → (choice : Choice) →
      Fair (program M) s choice → says row (given program' choice) ≡ false
  none-given g s b choice f =
      let z = (zero_iff file M e row room).0 g in
      ap (says row) (given_is s b choice f) ∙
      (says-hits row (drawn M s) ∙ never-hit M (read_accepted file M e) row z.0 z.2 s b)

  module _ (bytes : List ℕ) (g : wanted_of file row room ≡ gives (some bytes)) where
    abbrev string : List ℕ
    string = upto M.columns (bit_of bytes 0)

    least : SmallestString M row string
    least = laid-least file M e row room bytes g

    -- the string for a row: whichever lane carries it, the program gives the row there
    pub wanted-given : (choice : Choice) → Fair (program M) string choice → given program' choice ≡ gives (sample row)
    wanted-given choice f = given_is string least.bits choice f ∙ ap gives (laid-draws file M e row room bytes g)

    -- a string with a smaller number: it does not
    pub smaller_given : (s : List ℕ) → Bits M.columns s → string_number M.columns s < string_number M.columns string →
        (choice : Choice) → Fair (program M) s choice → says row (given program' choice) ≡ false
    smaller_given s b l choice f =
        ap (says row) (given_is s b choice f) ∙ (says-hits row (drawn M s) ∙ least.least s b l)

    -- the row is given after any stops too that are resumed as left
    pub wanted_stops : (inputs registers outputs : List ℕ) → ((i : ℕ) → get_or inputs i 0 < 2 ^ lanes) →
        (program M).inputs ≤ length inputs →
        (program M).registers ≤ length registers → (program M).outputs ≤ length outputs → (b : ℕ) (bs : List ℕ) (j : ℕ) → b < 2 ^ 32 →
        (program M).count ≤ together b (all_budgets bs) → j < lanes → lane_bits M.columns inputs j ≡ string →
        mapped (λ x. sample_of M.rows (take (program M).outputs x.outputs) j)
        (started word_gates program' inputs registers outputs b >>= (λ l. onward word_gates program' inputs l bs)) ≡
        gives (sample row)
    wanted_stops inputs registers outputs small i r o b bs j h enough jl carries =
        rw is
        (demand_2_stops file M e inputs registers outputs small i r o b bs j h enough jl ∙
        (ap (λ (s : List ℕ). gives (answer_of (drawn M s))) carries ∙ ap gives (laid-draws file M e row room bytes g)))

    -- ---- drawn: wherever it stands among 64 strings, its sample is the row
    pub wanted-drawn : (strings : List ℕ) → strings_of lanes M.columns strings ≡ gives tt → (samples : List ℕ) (free : ℕ) → lanes ≤ free →
        draw_of program' strings free ≡ gives samples → (j : ℕ) → j < lanes → string_at M.columns strings j ≡ bytes →
        get_or samples j 0 ≡ row
    wanted-drawn strings sound samples free l d j h q =
        let n : ℕ = M.columns in
        let here : string_bits n strings j ≡ string =
        upto-eq n (bit_of strings (j * width n)) (bit_of bytes 0)
        (λ i k. sym (string-bit n strings j i (omega arith)) ∙ ap (λ (b : List ℕ). bit_of b 0 i) q) in
        let all : samples ≡ upto lanes (λ j. code (drawn_at M strings j)) =
        gives_inj (sym d ∙ (ap (λ (p : List ℕ). draw_of p strings free) is ∙ draw-walks file M e strings sound free l)) in
        rw all
        (get_d_upto lanes (λ j. code (drawn_at M strings j)) j 0 h ∙
        (ap (λ (s : List ℕ). code (answer_of (drawn M s))) here ∙ ap code (laid-draws file M e row room bytes g)))

    -- ---- and so it is in all 64 lanes at once
    abbrev everywhere : List ℕ
    everywhere = blocks lanes (λ j. bytes)

    -- its bits, in each of the 64 places
    bit-there : (j i : ℕ) → j < lanes → i < 8 * width M.columns →
        bit_of everywhere (j * width M.columns) i ≡ padded M.columns (λ i. get_or string i 0) i
    unfolding packed_string
    bit-there j i h l =
        let n : ℕ = M.columns in
        ap (λ (b : List ℕ). bit_of (blocks lanes (λ j. b)) (j * width n) i) (laid-packed file M e row room bytes g) ∙
        packed-bit n (λ v i. get_or string i 0) lanes j i least.bits.each h l

    sound-there : strings_of lanes M.columns everywhere ≡ gives tt
    unfolding strings_under
    sound-there =
        let n : ℕ = M.columns in
        let a = read_accepted file M e in
        let one = laid-long file M e row room bytes g in
        let long : length everywhere ≡ lanes * width n = length-blocks (width n) (λ j. bytes) (λ j. one) lanes in
        let clear : any lanes (λ j. spare everywhere n (j * width n)) ≡ false =
        any-all lanes (λ j. spare everywhere n (j * width n))
        (λ j h. spare-none everywhere n (j * width n) (λ i k l. bit-there j i h l ∙ sym (padded-above n (λ i. get_or string i 0) i k))) in
        let there : ltb (length everywhere) (lanes * width n) ≡ false =
        le-ltb (length everywhere) (lanes * width n) (omega (arith, long)) in
        rw (inside most_columns n a.some_columns a.few_columns, there, clear)

    drawn-there : (j : ℕ) → j < lanes → code (drawn_at M everywhere j) ≡ row
    drawn-there j h =
        let n : ℕ = M.columns in
        let here : string_bits n everywhere j ≡ string =
        upto-eq n (bit_of everywhere (j * width n)) (bit_of bytes 0)
        (λ i k. bit-there j i h (omega arith) ∙
        (sym (padded-below n (λ i. get_or string i 0) i k) ∙ get_d_upto n (bit_of bytes 0) i 0 k)) in
        ap (λ (l : List ℕ). code (answer_of (drawn M l))) here ∙ ap code (laid-draws file M e row room bytes g)

    pub wanted-everywhere : (free : ℕ) → lanes ≤ free → draw_of program' (blocks lanes (λ j. bytes)) free ≡ gives (upto lanes (λ j. row))
    wanted-everywhere free l =
        ap (λ (p : List ℕ). draw_of p everywhere free) is ∙
        (draw-walks file M e everywhere sound-there free l ∙
        ap gives (upto-eq lanes (λ j. code (drawn_at M everywhere j)) (λ j. row) drawn-there))
