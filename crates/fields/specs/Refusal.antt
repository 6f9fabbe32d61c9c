-- 01, "The engine's no", and 02: the number that each refusal returns, and an answer in these numbers. Assumes nothing.
use Rattle.std.specs.Prelude.{ℕ, ◌≡◌, Result, Ok, Err, IsErrAnd}
use Rattle.std.proofs.Common.{ap}
use Rattle.laws.specs.Outcome.{Outcome, refused, gives}
use Rattle.fields.specs.declared.refusals.Refusal.{Refusal}
use Rattle.fields.specs.declared.refusals.Refusal.TheVariants.{Short, Kind, Size, Length, Bit, Sum, Instruction}
use Rattle.fields.specs.declared.refusals.Refusal.TheVariants.{Operand, Unwritten, Unset, Weightless, Position, Buffer}
use Rattle.fields.specs.declared.refusals.Refusal.TheVariants.{Multiplier, Table, Step, Signer, Cap, Reserve}

abbrev pub number_of : Refusal → ℕ
number_of Short = 1
number_of Kind = 2
number_of Size = 3
number_of Length = 4
number_of Bit = 5
number_of Sum = 6
number_of Instruction = 7
number_of Operand = 8
number_of Unwritten = 9
number_of Unset = 10
number_of Weightless = 11
number_of Position = 12
number_of Buffer = 13
number_of Multiplier = 14
number_of Table = 15
number_of Step = 16
number_of Signer = 17
number_of Cap = 18
number_of Reserve = 19

-- an operation's answer in 01's numbers
abbrev pub answered : {A : Type 0} → Result A Refusal → Outcome A
answered (Ok a) = gives a
answered (Err why) = refused (number_of why)

-- a refusal that `?` passes on is the same one
pub passed_on : {A : Type 0} (r : Result A Refusal) (why : Refusal) → IsErrAnd r (λ e. e ≡ why) → answered r ≡ refused (number_of why)
passed_on (Ok a) why h = absurd h
passed_on (Err e) why h = ap (λ x. refused (number_of x)) h
