-- 01, "Checked by hand", and 02, order 5: the cases that are proved, in one table, proved as a whole. Assumes nothing.
use Rattle.std.specs.Prelude.{ℕ, ◌*◌, ◌≡◌, refl, Bool, true, false, ◌&&◌, cond, List, [], ◌∷◌, eqb, length, replicate}
use Rattle.std.proofs.Common.{ap, eqb-true}
use Rattle.laws.specs.Tests.{never, both, same, same-is}
use Rattle.laws.specs.Sums.{sum_to, any}
use Rattle.laws.specs.Digits.{number, digit}
use Rattle.laws.specs.Lists.{blocks, upto}
use Rattle.laws.specs.Outcome.{Outcome, refused, gives, mapped, ◌>>=◌}
use Rattle.fields.specs.Fields.{field_of, packed_bit, padded, packed, spare}
use Rattle.fields.specs.Limits.{most_columns}
use Rattle.files.specs.Matrix.{most_rows, bit, p, total, ones_in}
use Rattle.files.specs.Files.{file_length, header_bytes, matrix_file, sizes_under, header_under, unpacked, body_of}
use Rattle.files.specs.Files.{matrix_under, matrix_of, read_under, read_of, write_under, write_of}
use Rattle.fields.specs.Strings.{strings_under}
use Rattle.weights.specs.Weights.{counted, sum, share, built, build_under, build_of}
use Rattle.programs.specs.declared.description.Program.{Program}
use Rattle.programs.specs.declared.description.Instruction.{Instruction}
use Rattle.programs.specs.declared.description.Instruction.TheVariants.{Ones, Zero, Input, Not, And, Or, Output}
use Rattle.programs.specs.Records.{record_bytes}
use Rattle.programs.specs.Instructions.{instruction_bytes, decode_of, sized_of}
use Rattle.programs.specs.Header.{code_bytes, program_file, header_under as program_header_under, header_bytes as program_header}
use Rattle.programs.specs.Header.{numbers_of as program_numbers, limits_under as program_limits_under}
use Rattle.machine.specs.Meaning.{exec}
use Rattle.checker.specs.Checks.{check_under, code_of, instruction_of, also}
use Rattle.machine.specs.Runs.{start_under, start_of, run_of}
use Rattle.machine.specs.declared.runs.Run.{Run}
use Rattle.programs.specs.Width.{bits_to_write, row_bits}
use Rattle.compiler.specs.Translation.{if_set, marks, live_before, column}
use Rattle.compiler.specs.Translation.{translation, program, compiled, compile_under, compile_of}
use Rattle.walk.specs.Walk.{at, scan, then, walk, drawn, used, Spending, walk_under, walk_of}
use Rattle.lanes.specs.Samples.{code}
use Rattle.weights.specs.declared.building.Usage.{Usage}
use Rattle.weights.specs.declared.building.Usage.TheVariants.{Plain, Signed}

-- an operation on what it is given, with room enough for its result
pub data Operation : Type 0 where
  -- rows, columns and entries, to a file
  writes : ℕ → ℕ → List ℕ → Operation
  -- a file, to its entries
  reads : List ℕ → Operation
  -- weights and columns, to the entries of what is built
  builds : Usage → List ℕ → ℕ → Operation
  -- a file and a packed string, to the row that the walk hits, or 255, and the columns that it has used
  walks : List ℕ → List ℕ → Operation
  -- the walk of what is built from weights and columns, on a packed string
  builds_walks : Usage → List ℕ → ℕ → List ℕ → Operation
  -- a matrix file, to its program
  compiles : List ℕ → Operation
  -- a matrix file and a budget, to what the start of its program answers: 1 for finished or 0 for stopped, position and count
  starts : List ℕ → ℕ → Operation

-- an operation, and what it must come to
pub record Case : Type 0 where
  pub operation : Operation
  pub must : Outcome (List ℕ)

infix 15 ◌⇒◌
abbrev pub ◌⇒◌ : Operation → Outcome (List ℕ) → Case
◌⇒◌ o q = record { operation = o; must = q }

-- ---- what 01 works with
-- the file of rows 10, 01, 01, of rows 10, 10, 01, of one row 1, and of rows 1, 1
three_rows : List ℕ
three_rows = 0x0b ∷ 0 ∷ 0x20 ∷ 0 ∷ 3 ∷ 0 ∷ 2 ∷ 0 ∷ 0x80 ∷ 0x40 ∷ 0x40 ∷ []

too_much : List ℕ
too_much = 0x0b ∷ 0 ∷ 0x20 ∷ 0 ∷ 3 ∷ 0 ∷ 2 ∷ 0 ∷ 0x80 ∷ 0x80 ∷ 0x40 ∷ []

one_row : List ℕ
one_row = 0x09 ∷ 0 ∷ 0x20 ∷ 0 ∷ 1 ∷ 0 ∷ 1 ∷ 0 ∷ 0x80 ∷ []

two_rows : List ℕ
two_rows = 0x0a ∷ 0 ∷ 0x20 ∷ 0 ∷ 2 ∷ 0 ∷ 1 ∷ 0 ∷ 0x80 ∷ 0x80 ∷ []

-- the program of the listing, for rows 1, 1 of one column
listed : Program
listed = record { registers = 10; inputs = 1; outputs = 2; rows = 2; count = 12 }

listing : List Instruction
listing =
    Ones 4 ∷ Zero 2 ∷ Zero 3 ∷ Input 0 0 ∷ Not 1 0 ∷ And 6 4 1 ∷ And 7 4 0 ∷ Or 2 2 6 ∷ Or 3 3 6 ∷ Or 2 2 7 ∷ Output 0 2 ∷ Output 1 3 ∷ []

-- ---- the table
pub cases : List Case
cases =
    -- rows 10, 01, 01 are the file 0B 00 20 00 03 00 02 00 80 40 40
    (writes 3 2 (1 ∷ 0 ∷ 0 ∷ 1 ∷ 0 ∷ 1 ∷ []) ⇒ gives three_rows)
    ∷ (reads three_rows ⇒ gives (1 ∷ 0 ∷ 0 ∷ 1 ∷ 0 ∷ 1 ∷ []))
    -- strings 00 and 01 give 0, 10 gives 2, 11 gives 1
    ∷ (walks three_rows (0x00 ∷ []) ⇒ gives (0 ∷ 1 ∷ []))
    ∷ (walks three_rows (0x40 ∷ []) ⇒ gives (0 ∷ 1 ∷ []))
    ∷ (walks three_rows (0x80 ∷ []) ⇒ gives (2 ∷ 2 ∷ []))
    ∷ (walks three_rows (0xc0 ∷ []) ⇒ gives (1 ∷ 2 ∷ []))
    -- one row 1, one column: string 0 gives 0, string 1 misses
    ∷ (walks one_row (0x00 ∷ []) ⇒ gives (0 ∷ 1 ∷ []))
    ∷ (walks one_row (0x80 ∷ []) ⇒ gives (255 ∷ 1 ∷ []))
    -- the listing of rows 1, 1 of one column
    ∷ (compiles two_rows ⇒ gives (program_file listed listing))
    -- that program with budget 12 finishes, with 11 it stops at 11
    ∷ (starts two_rows 12 ⇒ gives (1 ∷ 12 ∷ 12 ∷ []))
    ∷ (starts two_rows 11 ⇒ gives (0 ∷ 11 ∷ 11 ∷ []))
    -- rows 10, 10, 01: refusal 6
    ∷ (writes 3 2 (1 ∷ 0 ∷ 1 ∷ 0 ∷ 0 ∷ 1 ∷ []) ⇒ refused 6)
    ∷ (reads too_much ⇒ refused 6)
    -- weights 1, 1, 1 with n = 2, for plain use: rows 01, 01, 01
    ∷ (builds Plain (1 ∷ 1 ∷ 1 ∷ []) 2 ⇒ gives (0 ∷ 1 ∷ 0 ∷ 1 ∷ 0 ∷ 1 ∷ []))
    -- and 11 misses
    ∷ (builds_walks Plain (1 ∷ 1 ∷ 1 ∷ []) 2 (0xc0 ∷ []) ⇒ gives (255 ∷ 2 ∷ []))
    -- for signed use (02, order 5): rows 00, 01, 01
    ∷ (builds Signed (1 ∷ 1 ∷ 1 ∷ []) 2 ⇒ gives (0 ∷ 0 ∷ 0 ∷ 1 ∷ 0 ∷ 1 ∷ []))
    -- weight 5 alone, n = 3: row 111, for either use
    ∷ (builds Plain (5 ∷ []) 3 ⇒ gives (1 ∷ 1 ∷ 1 ∷ []))
    ∷ (builds Signed (5 ∷ []) 3 ⇒ gives (1 ∷ 1 ∷ 1 ∷ []))
    -- weights 0, 5 for signed use, n = 3: rows 000, 111
    ∷ (builds Signed (0 ∷ 5 ∷ []) 3 ⇒ gives (0 ∷ 0 ∷ 0 ∷ 1 ∷ 1 ∷ 1 ∷ []))
    -- weights 0, 0: refusal 11, for either use
    ∷ (builds Plain (0 ∷ 0 ∷ []) 1 ⇒ refused 11)
    ∷ (builds Signed (0 ∷ 0 ∷ []) 1 ⇒ refused 11)
    ∷ []

-- the row of a walk, or 255, and the columns that it has used
told_of : Spending → List ℕ
told_of w = code w.answer ∷ w.used ∷ []

-- a run's answer in numbers
numbers_of : Run → List ℕ
numbers_of r = cond r.finished 1 0 ∷ r.position ∷ r.count ∷ []

-- what the operation comes to
pub comes : Operation → Outcome (List ℕ)
comes (writes m n entries) = write_of m n entries (file_length m n)
comes (reads file) = mapped (λ M. M.entries) (read_of file (most_rows * most_columns))
comes (builds usage weights n) =
    build_of usage weights n (file_length (length weights) n) >>= λ file. mapped (λ M. M.entries) (matrix_of file)
comes (walks file string) = mapped told_of (walk_of file string)
comes (builds_walks usage weights n string) =
    build_of usage weights n (file_length (length weights) n) >>= λ file. mapped told_of (walk_of file string)
comes (compiles file) = compile_of file 1024
comes (starts file budget) =
    compile_of file 1024 >>= λ program. mapped (λ e. numbers_of e.answer) (start_of program (0 ∷ []) (replicate 10 0) (0 ∷ 0 ∷ []) budget)

-- ---- the test
agrees : Outcome (List ℕ) → Outcome (List ℕ) → Bool
agrees (refused j) (refused k) = eqb j k
agrees (refused j) (gives y) = false
agrees (gives x) (refused k) = false
agrees (gives x) (gives y) = same x y

all_agree : List Case → Bool
all_agree [] = true
all_agree (c ∷ cs) = agrees (comes c.operation) c.must && all_agree cs

-- ---- the test is right
agrees-is : (o q : Outcome (List ℕ)) → agrees o q ≡ true → o ≡ q
unfolding agrees
agrees-is (refused j) (refused k) e = ap refused (eqb-true j k e)
agrees-is (refused j) (gives y) e = never e
agrees-is (gives x) (refused k) e = never e
agrees-is (gives x) (gives y) e = ap gives ((same-is x y).0 e)

-- every case of a list comes to what it must
pub AllCome : List Case → Type 0
AllCome [] = Unit {0}
AllCome (c ∷ cs) = (comes c.operation ≡ c.must) × AllCome cs

all_come : (cs : List Case) → all_agree cs ≡ true → AllCome cs
unfolding all_agree AllCome
all_come [] e = tt
all_come (c ∷ cs) e =
    let s = both (agrees (comes c.operation) c.must) (all_agree cs) e in
    (agrees-is (comes c.operation) c.must s.0, all_come cs s.1)

-- ---- the table holds
pub cases_hold : AllCome cases
unfolding three_rows too_much one_row two_rows listed listing cases comes all_agree agrees same told_of numbers_of sum_to any number digit
    blocks upto field_of packed_bit padded packed spare bit p total ones_in header_bytes matrix_file sizes_under header_under unpacked
    body_of matrix_under read_under write_under counted sum share built build_under strings_under at scan then walk drawn used walk_under
    record_bytes instruction_bytes decode_of sized_of code_bytes program_file program_header_under program_header program_numbers
    program_limits_under exec check_under code_of instruction_of also start_under run_of bits_to_write row_bits if_set marks live_before
    column translation program compiled compile_under
cases_hold = all_come cases refl
