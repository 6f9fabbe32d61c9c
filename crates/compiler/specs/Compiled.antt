-- What is compiled is always an accepted program. Assumes nothing.
use Prim.Native.Nat.{ℕ, ◌+◌, ◌*◌, ◌≤◌}
use Rattle.std.specs.Prelude.{◌≡◌, List, ◌++◌, ltb, length}
use Rattle.std.proofs.Math.Path.{refl}
use Rattle.std.proofs.Common.{sym, ap, ◌∙◌, arith, le-leb, le-ltb, ltb-false}
use Rattle.laws.specs.Lists.{blocks}
use Rattle.laws.specs.Outcome.{gives, passed, bound, gives_inj}
use Rattle.fields.specs.Limits.{most_columns}
use Rattle.files.specs.Matrix.{Matrix, Accepted, bit}
use Rattle.files.specs.Files.{matrix_of}
use Rattle.files.specs.RoundTrip.{read_accepted}
use Rattle.programs.specs.Width.{row_bits, few_bits}
use Rattle.programs.specs.Limits.{most_registers, most_inputs, most_outputs, most_instructions}
use Rattle.programs.specs.Reading.{among-limits, suited-holds}
use Rattle.programs.specs.Header.{numbers_of}
use Rattle.programs.specs.Inverse.{header-reads}
use Rattle.programs.specs.declared.description.Program.{Program}
use Rattle.checker.specs.Checks.{Code, check_of}
use Rattle.checker.specs.Checking.{check_says}
use Rattle.checker.specs.Accepting.{Sound}
use Rattle.checker.proofs.Accepting.{accepted}
use Rattle.compiler.specs.Translation.{begin, column, translation, program, compiled, compile_under, compile_of}
use Rattle.compiler.specs.Room.{accepted-roomy}
use Rattle.compiler.specs.Ranges.{in_range, all_set}
use Rattle.compiler.specs.Written.{written-first}
use Rattle.compiler.specs.Size.{short}

-- what the check reads in a compiled program
abbrev pub compiled_code : Matrix → Code
compiled_code M = record { program = program M; instructions = translation M }

-- ---- what the header says
module _ (M : Matrix) where
  pub inputs_are : (program M).inputs ≡ M.columns
  unfolding program
  inputs_are = refl

  pub outputs-are : (program M).outputs ≡ 1 + row_bits M.rows
  unfolding program
  outputs-are = refl

  pub rows_are : (program M).rows ≡ M.rows
  unfolding program
  rows_are = refl

-- ---- the check passes
module _ (M : Matrix) (a : Accepted M) where
  -- 02, order 8: at most 962 instructions a column and 17 more, so never more than are allowed
  pub few-a-column : (program M).count ≤ 962 * M.columns + 17
  unfolding program translation
  few-a-column = short (row_bits M.rows) M.rows M.columns (bit M) (few_bits M.rows a.few_rows) a.some_rows a.few_rows

  pub few_in_all : (program M).count ≤ 962 * most_columns + 17
  few_in_all = omega (arith, few-a-column, a.few_columns)

  pub sound : Sound (program M) (translation M)
  unfolding program translation
  sound =
      let k : ℕ = row_bits M.rows in
      let bits = few_bits M.rows a.few_rows in
      let roomy = accepted-roomy M a in
      record {
        limits =
            rw (
              among-limits most_registers (3 + k + 3 * M.rows) (omega arith) (omega (arith, a.few_rows)),
              among-limits most_inputs M.columns a.some_columns a.few_columns,
              among-limits most_outputs (1 + k) (omega arith) (omega arith),
              suited-holds M.rows (1 + k) a.some_rows a.few_rows refl,
            )
            (le-leb (program M).count most_instructions (omega (arith, few_in_all)));
        counted = refl;
        in_range = in_range k M.rows M.columns (bit M) roomy;
        written = written-first k M.rows M.columns (bit M) roomy;
        all_set = all_set k (begin k ++ blocks M.columns (column k M.rows (bit M)));
      }

  pub compiled-accepted : check_of (compiled M) ≡ gives (compiled_code M)
  unfolding compiled
  compiled-accepted = accepted (program M) (translation M) sound

-- 02, order 10: the rows that stand in its header are those of the matrix
pub header-rows : (M : Matrix) → Accepted M → (numbers_of (compiled M)).rows ≡ M.rows
header-rows M a =
    let head = (check_says (compiled M) (compiled_code M) (compiled-accepted M a)).0 in
    ap (λ (p : Program). p.rows) (header-reads (compiled M) (program M) head).numbers ∙ rows_are M

-- what compiling a file lays down: the program of its matrix, within the buffer
pub compile_lays : (file code : List ℕ) (room : ℕ) → compile_of file room ≡ gives code →
    (M : Matrix) × (matrix_of file ≡ gives M) × (code ≡ compiled M) × (length code ≤ room)
unfolding compile_under
compile_lays file code room e =
    let (M, m, t) = bound (matrix_of file) _ code e in
    let (fits, is) = passed 13 (ltb room (length (compiled M))) (gives (compiled M)) code t in
    let same : code ≡ compiled M = sym (gives_inj is) in
    (M, m, same, rw same (ltb-false room (length (compiled M)) fits))

-- it is accepted, always: no run refuses it
pub compile_accepted : (file code : List ℕ) (room : ℕ) (M : Matrix) → matrix_of file ≡ gives M → compile_of file room ≡ gives code →
    (code ≡ compiled M) × (length code ≤ room) × (check_of code ≡ gives (compiled_code M))
compile_accepted file code room M e c =
    let (N, n, same, fits) = compile_lays file code room c in
    let is : code ≡ compiled M = same ∙ ap compiled (gives_inj (sym n ∙ e)) in
    (is, fits, rw is (compiled-accepted M (read_accepted file M e)))

-- and a matrix file compiles wherever the program of its matrix has room
pub compile_fits : (file : List ℕ) (room : ℕ) (M : Matrix) → matrix_of file ≡ gives M → length (compiled M) ≤ room →
    compile_of file room ≡ gives (compiled M)
unfolding compile_under
compile_fits file room M e h = rw (e, le-ltb room (length (compiled M)) h)
