-- 01, "Translation": the program of a matrix, instruction by instruction, and what compiling a matrix file comes to. Assumes nothing.
use Rattle.std.specs.Prelude.{ℕ, zero, suc, ◌+◌, ◌-◌, ◌*◌, ◌/◌, ◌%◌, ◌^◌, min, List, [], ◌∷◌, ◌++◌, ltb, length}
use Rattle.laws.specs.Lists.{blocks}
use Rattle.laws.specs.Outcome.{Outcome, gives, refuse, ◌>>◌, ◌>>=◌}
use Rattle.files.specs.Matrix.{Matrix, bit, ones_in}
use Rattle.fields.specs.Limits.{most_columns}
use Rattle.files.specs.Files.{matrix_under}
use Rattle.programs.specs.Width.{row_bits}
use Rattle.programs.specs.Header.{program_file}
use Rattle.programs.specs.declared.description.Program.{Program}
use Rattle.programs.specs.declared.description.Instruction.{Instruction}
use Rattle.programs.specs.declared.description.Instruction.TheVariants.{Ones, Zero, Input, Not, And, Or, Output}

-- ---- registers: B, N, H, then k of V, m of X, 2m of Y
abbrev pub reg_b : ℕ
reg_b = 0

abbrev pub reg_n : ℕ
reg_n = 1

abbrev pub reg_h : ℕ
reg_h = 2

abbrev pub reg_v : ℕ → ℕ
reg_v t = 3 + t

abbrev pub reg_x : ℕ → ℕ → ℕ
reg_x k i = 3 + k + i

abbrev pub reg_y : ℕ → ℕ → ℕ → ℕ
reg_y k m j = 3 + k + m + j

-- ---- the parts of the program
-- X_0 is set, H and each V_t clear
abbrev pub clear : ℕ → List Instruction
clear t = Zero (reg_v t) ∷ []

abbrev pub begin : ℕ → List Instruction
begin k = Ones (reg_x k 0) ∷ Zero reg_h ∷ [] ++ blocks k clear

-- bit c is read, and the distance i becomes 2i or 2i + 1, for each of the h live ones
abbrev pub apart : ℕ → ℕ → ℕ → List Instruction
apart k m i = And (reg_y k m (2 * i)) (reg_x k i) reg_n ∷ And (reg_y k m (2 * i + 1)) (reg_x k i) reg_b ∷ []

abbrev pub split : ℕ → ℕ → ℕ → ℕ → List Instruction
split k m c h = Input reg_b c ∷ Not reg_n reg_b ∷ [] ++ blocks h (apart k m)

-- what is there for a set bit, and nothing for a clear one
unfoldable pub if_set : ℕ → List Instruction → List Instruction
if_set zero is = []
if_set (suc b) is = is

-- row v, the set row met j-th: H, and V_t for each set bit t of v, lowest first
abbrev pub spell : ℕ → ℕ → ℕ → ℕ → ℕ → List Instruction
spell k m v j t = if_set (v / 2 ^ t % 2) (Or (reg_v t) (reg_v t) (reg_y k m j) ∷ [])

abbrev pub mark : ℕ → ℕ → ℕ → ℕ → List Instruction
mark k m v j = Or reg_h reg_h (reg_y k m j) ∷ [] ++ blocks k (spell k m v j)

-- the rows r - 1 down to 0 of one column, with j set rows met before them: a set row is marked, and is one more that is met
unfoldable pub marks : ℕ → ℕ → (ℕ → ℕ) → ℕ → ℕ → List Instruction
marks k m column zero j = []
marks k m column (suc r) j = if_set (column r) (mark k m r j) ++ marks k m column r (j + column r)

-- after w set rows the distance w + i is i, for each of the h that stay live
abbrev pub carry : ℕ → ℕ → ℕ → ℕ → List Instruction
carry k m w i = Or (reg_x k i) (reg_y k m (w + i)) (reg_y k m (w + i)) ∷ []

abbrev pub keep : ℕ → ℕ → ℕ → ℕ → List Instruction
keep k m w h = blocks h (carry k m w)

-- H, then each V_t
abbrev pub tell : ℕ → List Instruction
tell t = Output (1 + t) (reg_v t) ∷ []

abbrev pub end : ℕ → List Instruction
end k = Output 0 reg_h ∷ [] ++ blocks k tell

-- the live count h before column c: 1, and after a column with w ones the smaller of 2h - w and m
unfoldable pub live_before : (ℕ → ℕ → ℕ) → ℕ → ℕ → ℕ
live_before bit m zero = 1
live_before bit m (suc c) = min (2 * live_before bit m c - ones_in bit m c) m

-- column c: its distances split, its set rows are met, and what is left of the distances is kept
unfoldable pub column : ℕ → ℕ → (ℕ → ℕ → ℕ) → ℕ → List Instruction
column k m bit c =
    split k m c (live_before bit m c) ++ marks k m (λ v. bit v c) m 0 ++ keep k m (ones_in bit m c) (live_before bit m (suc c))

-- n columns of m rows, with k bits to write a row
abbrev pub translation_of : ℕ → ℕ → ℕ → (ℕ → ℕ → ℕ) → List Instruction
translation_of k m n bit = begin k ++ blocks n (column k m bit) ++ end k

-- ---- the program of a matrix
-- its instructions
unfoldable pub translation : Matrix → List Instruction
translation M = translation_of (row_bits M.rows) M.rows M.columns (bit M)

-- its header
unfoldable pub program : Matrix → Program
program M =
    record {
      registers = 3 + row_bits M.rows + 3 * M.rows;
      inputs = M.columns;
      outputs = 1 + row_bits M.rows;
      rows = M.rows;
      count = length (translation M);
    }

-- its file
unfoldable pub compiled : Matrix → List ℕ
compiled M = program_file (program M) (translation M)

-- compiling a matrix file into a buffer of `room` bytes, where at most `most` columns are allowed: the matrix's checks, then 13 for the
-- whole program, which is laid down
unfoldable pub compile_under : ℕ → List ℕ → ℕ → Outcome (List ℕ)
compile_under most file room = do
  M ← matrix_under most file
  refuse 13 (ltb room (length (compiled M)))
  gives (compiled M)

-- at the limit of columns
abbrev pub compile_of : List ℕ → ℕ → Outcome (List ℕ)
compile_of = compile_under most_columns
