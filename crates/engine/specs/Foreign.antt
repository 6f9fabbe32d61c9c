-- 02, order 3, of everything that takes a file: what goes on from one of the two readers refuses foreign and short files as that does.
-- Assumes nothing.
use Rattle.std.specs.Prelude.{ℕ, ◌≤◌, ◌<◌, ◌≡◌, refl, List, ltb, length, get_or, take, replicate}
use Rattle.std.proofs.Common.{sym, arith}
use Rattle.laws.specs.Outcome.{Outcome, refused, gives, refuse, mapped, ◌>>◌, ◌>>=◌, bind_is, bind_eq}
use Rattle.laws.specs.Changes.{Changed, Through, through_refused, through_changed}
use Rattle.fields.specs.Foreign.{Foreign, foreign_cut}
use Rattle.files.specs.Matrix.{Matrix, sizes}
use Rattle.files.specs.Files.{matrix_of, read_under, read_of}
use Rattle.files.specs.Checks.{header-says, matrix_read}
use Rattle.files.specs.Foreign.{Short as ShortMatrix, matrix_short_first}
use Rattle.files.proofs.Foreign.{matrix_changed, matrix-few, matrix_foreign, matrix_cut}
use Rattle.programs.specs.Header.{header_kind}
use Rattle.programs.specs.Inverse.{header-reads}
use Rattle.programs.specs.Foreign.{Short as ShortProgram}
use Rattle.programs.specs.declared.description.Program.{Program}
use Rattle.checker.specs.Checks.{Code, check_of}
use Rattle.checker.specs.Checking.{check_says}
use Rattle.checker.specs.Foreign.{check_short_first, check_changed, check_few, check_foreign}
use Rattle.checker.proofs.Foreign.{check_cut}
use Rattle.machine.specs.Runs.{start_of, start_under, resume_of, resume_under}
use Rattle.walk.specs.Walk.{walk_under, walk_of}
use Rattle.lanes.specs.Slicing.{lanes, slice_of}
use Rattle.spent.specs.Spent.{spent_under, spent_of}
use Rattle.wanted.specs.Wanted.{wanted_under, wanted_of}
use Rattle.cumulative.specs.Tables.{export_under, export_of}
use Rattle.compiler.specs.Translation.{compile_under, compile_of}
use Rattle.drawing.specs.Drawing.{drawn_under, drawn_with}

-- ---- what takes a matrix file goes on from the matrix that is read
pub check_through : Through matrix_of (λ file. mapped sizes (matrix_of file))
check_through = record { rest = λ M. gives (sizes M); goes_on = λ file. sym (bind_is (matrix_of file) sizes) }

pub read_through : (room : ℕ) → Through matrix_of (λ file. read_of file room)
unfolding read_under
read_through room = record { rest = _; goes_on = λ file. refl }

pub walk_through : (string : List ℕ) → Through matrix_of (λ file. walk_of file string)
unfolding walk_under
walk_through string = record { rest = _; goes_on = λ file. refl }

pub spent_through : (strings : List ℕ) → Through matrix_of (λ file. spent_of file strings)
unfolding spent_under
spent_through strings = record { rest = _; goes_on = λ file. refl }

pub string_for_through : (row room : ℕ) → Through matrix_of (λ file. wanted_of file row room)
unfolding wanted_under
string_for_through row room = record { rest = _; goes_on = λ file. refl }

pub compile_through : (room : ℕ) → Through matrix_of (λ file. compile_of file room)
unfolding compile_under
compile_through room = record { rest = _; goes_on = λ file. refl }

pub export_through : (room : ℕ) → Through matrix_of (λ file. export_of file room)
unfolding export_under
export_through room = record { rest = _; goes_on = λ file. refl }

-- ---- what takes a program file goes on from the program that is checked
pub check_program_through : Through check_of (λ file. mapped (λ c. c.program) (check_of file))
check_program_through =
    record { rest = λ c. gives c.program; goes_on = λ file. sym (bind_is (check_of file) (λ (c : Code). c.program)) }

pub start_through : (inputs registers outputs : List ℕ) (budget : ℕ) →
    Through check_of (λ file. start_of file inputs registers outputs budget)
unfolding start_under
start_through inputs registers outputs budget = record { rest = _; goes_on = λ file. refl }

pub resume_through : (inputs registers outputs : List ℕ) (position budget : ℕ) →
    Through check_of (λ file. resume_of file inputs registers outputs position budget)
unfolding resume_under
resume_through inputs registers outputs position budget = record { rest = _; goes_on = λ file. refl }

-- drawing starts the program that it has checked, with any way of reading the outputs
module _ {A : Type 0} (strings : List ℕ) (room : ℕ) (read : ℕ → List ℕ → Outcome A) where
  on_words : (p : Program) (words : List ℕ) →
      Through check_of (λ file. start_of file words (replicate p.registers 0) (replicate p.outputs 0) p.count)
  on_words p words = start_through words (replicate p.registers 0) (replicate p.outputs 0) p.count

  -- the rest of `drawn_with`, with its start of the file as one of the program that was checked
  after_check : Code → Outcome A
  after_check c = do
    words ← slice_of c.program.inputs strings c.program.inputs
    refuse 13 (ltb room lanes)
    e ← (on_words c.program words).rest c
    read c.program.rows e.state.outputs

  pub draw_through : Through check_of (λ file. drawn_with file strings room read)
  unfolding drawn_under after_check
  draw_through =
      record {
        rest = after_check;
        goes_on = λ file. bind_eq (check_of file) _ _
            (λ c ok. bind_eq (slice_of c.program.inputs strings c.program.inputs) _ _
            (λ words cut. rw ((on_words c.program words).goes_on file, ok)));
      }

-- ---- the answers that changed, of any of them: before, it went on alike from what 01's order of checks gave
module _ {B : Type 0} {operation : List ℕ → Outcome B} where
  pub matrix_operations : (t : Through matrix_of operation) (file : List ℕ) →
      Changed (Foreign 32 file × ShortMatrix file) 1 2 (matrix_short_first file >>= t.rest) (operation file)
  matrix_operations t file = through_changed t file (matrix_changed file)

  pub program_operations : (t : Through check_of operation) (file : List ℕ) →
      Changed (Foreign header_kind file × ShortProgram file) 1 2 (check_short_first file >>= t.rest) (operation file)
  program_operations t file = through_changed t file (check_changed file)

-- ---- a file that one reader accepts is foreign to the other
pub program-is_foreign : (file : List ℕ) (c : Code) → check_of file ≡ gives c → Foreign 32 file
program-is_foreign file c e =
    let says = header-reads file c.program (check_says file c e).0 in
    (omega (arith, says.room), λ k. omega (arith, k, says.kind))

pub matrix-is_foreign : (file : List ℕ) (M : Matrix) → matrix_of file ≡ gives M → Foreign header_kind file
matrix-is_foreign file M e =
    let says = header-says file (sizes M) (matrix_read file M e).header in
    (omega (arith, says.sized.long), λ k. omega (arith, k, says.kind_is))

-- so, cut anywhere from four bytes on, it is told as foreign and not as short by all that takes the other
module _ {B : Type 0} {operation : List ℕ → Outcome B} (file : List ℕ) (n : ℕ) (h : 4 ≤ n) where
  pub program_for_matrix : Through matrix_of operation → (c : Code) → check_of file ≡ gives c → operation (take n file) ≡ refused 2
  program_for_matrix t c e =
      through_refused t (take n file) (matrix_foreign (take n file) (foreign_cut 32 file n h (program-is_foreign file c e)))

  pub matrix_for_program : Through check_of operation → (M : Matrix) → matrix_of file ≡ gives M → operation (take n file) ≡ refused 2
  matrix_for_program t M e =
      through_refused t (take n file) (check_foreign (take n file) (foreign_cut header_kind file n h (matrix-is_foreign file M e)))

-- and as short by all that takes its own, wherever it is cut
module _ {B : Type 0} {operation : List ℕ → Outcome B} (file : List ℕ) (n : ℕ) (h : n < length file) where
  pub matrix_for_matrix : Through matrix_of operation → (M : Matrix) → matrix_of file ≡ gives M → operation (take n file) ≡ refused 1
  matrix_for_matrix t M e = through_refused t (take n file) (matrix_cut file M e n h)

  pub program_for_program : Through check_of operation → (c : Code) → ((k : ℕ) → get_or file k 0 < 256) → check_of file ≡ gives c →
      operation (take n file) ≡ refused 1
  program_for_program t c byte e = through_refused t (take n file) (check_cut file c byte e n h)

-- under four bytes a file is told as short by both
module _ {B : Type 0} {operation : List ℕ → Outcome B} (file : List ℕ) (h : length file < 4) where
  pub few_for_matrix : Through matrix_of operation → operation file ≡ refused 1
  few_for_matrix t = through_refused t file (matrix-few file h)

  pub few_for_program : Through check_of operation → operation file ≡ refused 1
  few_for_program t = through_refused t file (check_few file h)
