-- 01, "What a compiled program gives for a string of n bits": the definitions that demands 2 and 3 speak of. Assumes nothing.
use Rattle.std.specs.Prelude.{ℕ, ◌^◌, ◌≤◌, ◌<◌, ◌≡◌, Bool, true, false, List, eqb, length, get_or}
use Rattle.std.proofs.Common.{sym}
use Rattle.laws.specs.Words.{bit_at}
use Rattle.laws.specs.Lists.{upto, get_d_upto}
use Rattle.laws.specs.Outcome.{Outcome, refused, gives, mapped}
use Rattle.programs.specs.Header.{numbers_of}
use Rattle.programs.specs.declared.description.Program.{Program}
use Rattle.machine.specs.Runs.{start_of}
use Rattle.walk.specs.Walk.{Answer, sample, missed}
use Rattle.lanes.specs.Slicing.{lanes}
use Rattle.lanes.specs.Samples.{sample_of}

-- the bits of lane j, one for each of the first n words
abbrev pub lane_bits : ℕ → List ℕ → ℕ → List ℕ
lane_bits n inputs j = upto n (λ i. bit_at (get_or inputs i 0) j)

-- what may be chosen anew for each string: the lane that carries it, the input words with anything in the other lanes, what registers and
-- outputs hold before, and the budget
pub record Choice : Type 0 where
  pub lane : ℕ
  pub inputs : List ℕ
  pub registers : List ℕ
  pub outputs : List ℕ
  pub budget : ℕ

-- the lane is one of 64, words have 64 bits, the lane of the input words carries the string, registers and outputs are at least as many as
-- the header names, and the budget is no smaller than the instruction count
pub record Fair (p : Program) (string : List ℕ) (c : Choice) : Type 0 where
  pub in_word : c.lane < lanes
  pub words : (i : ℕ) → get_or c.inputs i 0 < 2 ^ lanes
  pub carries : (i : ℕ) → i < p.inputs → bit_at (get_or c.inputs i 0) c.lane ≡ get_or string i 0
  pub inputs_there : p.inputs ≤ length c.inputs
  pub registers_there : p.registers ≤ length c.registers
  pub outputs_there : p.outputs ≤ length c.outputs
  pub enough : p.count ≤ c.budget

-- what the program file gives then: the sample, or the miss, of that lane of the outputs after the start, of the rows that its header says
unfoldable pub given : List ℕ → Choice → Outcome Answer
given file c =
    mapped (λ e. sample_of (numbers_of file).rows e.state.outputs c.lane)
    (start_of file c.inputs c.registers c.outputs c.budget)

-- whether sample v is given, and whether it misses
unfoldable pub says : ℕ → Outcome Answer → Bool
says v (refused n) = false
says v (gives (sample u)) = eqb u v
says v (gives missed) = false

unfoldable pub says_miss : Outcome Answer → Bool
says_miss (refused n) = false
says_miss (gives (sample u)) = false
says_miss (gives missed) = true

-- ---- a choice with words enough is fair for the bits of its own lane
pub own_fair : (p : Program) (c : Choice) → c.lane < lanes → ((i : ℕ) → get_or c.inputs i 0 < 2 ^ lanes) →
    p.inputs ≤ length c.inputs → p.registers ≤ length c.registers → p.outputs ≤ length c.outputs → p.count ≤ c.budget →
    Fair p (lane_bits p.inputs c.inputs c.lane) c
own_fair p c l w i r o b =
    record {
      in_word = l;
      words = w;
      carries = λ k h. sym (get_d_upto p.inputs (λ i. bit_at (get_or c.inputs i 0) c.lane) k 0 h);
      inputs_there = i;
      registers_there = r;
      outputs_there = o;
      enough = b;
    }
