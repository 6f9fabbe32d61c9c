-- Demand 2: each lane of a compiled program answers as the Knuth-Yao walk does on that lane's bits, whatever the other lanes, the earlier
-- contents of the working words, and stops that are resumed as left. Assumes nothing.
use Rattle.std.specs.Prelude.{ℕ, ◌^◌, ◌≤◌, ◌<◌, ◌≡◌, List, length, get_or, take}
use Rattle.std.proofs.Common.{sym, ap, ◌∙◌}
use Rattle.laws.specs.Words.{bit_at}
use Rattle.laws.specs.Lists.{length-upto}
use Rattle.laws.specs.Lay.{lay, take-lay}
use Rattle.laws.specs.Outcome.{gives, mapped, ◌>>=◌, gives_inj}
use Rattle.files.specs.Matrix.{Matrix}
use Rattle.files.specs.Files.{matrix_of}
use Rattle.files.specs.RoundTrip.{read_accepted}
use Rattle.machine.specs.Meaning.{word_gates}
use Rattle.checker.specs.Checks.{check_of}
use Rattle.machine.specs.Runs.{Ended, start_of}
use Rattle.machine.specs.Resuming.{started, onward, Chain, together, all_budgets}
use Rattle.machine.proofs.Resuming.{start-onward, start_chain}
use Rattle.walk.specs.Walk.{drawn, answer_of}
use Rattle.lanes.specs.Slicing.{lanes}
use Rattle.lanes.specs.Samples.{sample_of}
use Rattle.compiler.specs.Translation.{program, compiled, translation}
use Rattle.compiler.specs.Compiled.{compiled-accepted, outputs-are, header-rows}
use Rattle.engine.specs.Given.{lane_bits, Choice, Fair, given, own_fair}
use Rattle.engine.specs.Lanewise.{starts, lane-says, lane-draws}

module _ (file : List ℕ) (M : Matrix) (e : matrix_of file ≡ gives M) where
  -- what compile writes is always an accepted program
  pub compiled-is-accepted : check_of (compiled M) ≡ gives (record { program = program M; instructions = translation M })
  compiled-is-accepted = compiled-accepted M (read_accepted file M e)

  module _ (inputs registers outputs : List ℕ) (small : (i : ℕ) → get_or inputs i 0 < 2 ^ lanes) (i : (program M).inputs ≤ length inputs)
      (r : (program M).registers ≤ length registers) (o : (program M).outputs ≤ length outputs) where
    abbrev pub chosen : ℕ → ℕ → Choice
    chosen budget j = record { lane = j; inputs = inputs; registers = registers; outputs = outputs; budget = budget }

    pub fair : (budget j : ℕ) → (program M).count ≤ budget → j < lanes → Fair (program M) (lane_bits M.columns inputs j) (chosen budget j)
    unfolding program
    fair budget j enough jl = own_fair (program M) (chosen budget j) jl small i r o enough

    pub bits-many : (j : ℕ) → length (lane_bits M.columns inputs j) ≡ M.columns
    bits-many j = length-upto M.columns (λ i. bit_at (get_or inputs i 0) j)

    -- started on n or more words, with anything in registers and outputs before and any budget not below the count: lane j of the outputs,
    -- of the matrix's rows, gives the row that the walk on lane j's bits hits, or misses where it misses
    pub demand_2 : (budget j : ℕ) → (program M).count ≤ budget → j < lanes →
        mapped (λ x. sample_of M.rows x.state.outputs j) (start_of (compiled M) inputs registers outputs budget) ≡
        gives (answer_of (drawn M (lane_bits M.columns inputs j)))
    unfolding given
    demand_2 budget j enough jl =
        let a = read_accepted file M e in
        rw (header-rows M a) at (lane-draws M a _ (bits-many j) (chosen budget j) (fair budget j enough jl))

    -- the same after any stops that are resumed as left: what the caller's buffer holds in the end, where the budgets together are not
    -- below the count
    pub demand_2_stops : (b : ℕ) (bs : List ℕ) (j : ℕ) → b < 2 ^ 32 → (program M).count ≤ together b (all_budgets bs) → j < lanes →
        mapped (λ x. sample_of M.rows (take (program M).outputs x.outputs) j)
        (started word_gates (compiled M) inputs registers outputs b >>= (λ l. onward word_gates (compiled M) inputs l bs)) ≡
        gives (answer_of (drawn M (lane_bits M.columns inputs j)))
    demand_2_stops b bs j h enough jl =
        let budget : ℕ = together b (all_budgets bs) in
        let f : Fair (program M) (lane_bits M.columns inputs j) (chosen budget j) = fair budget j enough jl in
        let a = read_accepted file M e in
        let end = starts M a _ (bits-many j) (chosen budget j) f in
        let front : take (program M).outputs (lay end.ended.state.outputs outputs) ≡ end.ended.state.outputs =
        take-lay (program M).outputs end.ended.state.outputs outputs (end.long ∙ sym (outputs-are M)) in
        rw (start-onward word_gates (compiled M) inputs registers outputs b bs h, end.is, front)
        (ap gives (lane-says M a _ (bits-many j) (chosen budget j) f))

    -- and where registers and outputs that a stop left are put back at the front of other buffers: what the last call leaves
    pub demand_2_moved : (b : ℕ) (bs : List ℕ) (first last : Ended ℕ) (j : ℕ) → b < 2 ^ 32 →
        (program M).count ≤ together b (all_budgets bs) →
        j < lanes → start_of (compiled M) inputs registers outputs b ≡ gives first → Chain word_gates (compiled M) inputs first bs last →
        sample_of M.rows last.state.outputs j ≡ answer_of (drawn M (lane_bits M.columns inputs j))
    demand_2_moved b bs first last j h enough jl q c =
        let end = start_chain word_gates (compiled M) inputs registers outputs b bs first last h q c in
        gives_inj (rw end at (demand_2 (together b (all_budgets bs)) j enough jl))
