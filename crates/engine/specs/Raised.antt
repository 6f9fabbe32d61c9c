-- 02, order 8, of everything that takes columns, inputs or instructions: the definitions are told the limits, and raising one changes an
-- answer only where it was 3 for that limit. So whatever is within 01's limits is answered as under them, with the header that programs
-- now have (02, order 10). Assumes nothing.
use Rattle.std.specs.Prelude.{ℕ, ◌≤◌, ◌<◌, ◌≡◌, refl, Bool, false, not, ◌||◌, List, ◌↔◌, ◌⊎◌, eqb, ltb, length, replicate}
use Rattle.std.proofs.Common.{sym, ap, ◌∙◌, ⊎_elim, arith}
use borrow.Author.Tests.{le-ltb, ltb-false, eq-eqb, eqb-true, not-false}
use Rattle.laws.specs.Outcome.{Outcome, refused, gives, ◌>>◌, ◌>>=◌, bind_eq}
use Rattle.laws.specs.Raised.{Raised, raised_elsewhere, raised_result, raised_behind, raised_front, raised_then, raised_when}
use Rattle.fields.specs.Fields.{field_of}
use Rattle.fields.specs.Limits.{most_columns, outside, Between, outside-same, limit_raised}
use Rattle.fields.specs.Strings.{strings_under, strings_of}
use Rattle.files.specs.Matrix.{Matrix, most_rows, outside_under, sizes_outside}
use Rattle.files.specs.Files.{sizes_under, header_under, body_of, matrix_under, matrix_of, read_under, read_of}
use Rattle.files.specs.Files.{write_header_under, write_header_of, write_under, write_of}
use Rattle.files.specs.Checks.{matrix-columns}
use Rattle.weights.specs.Weights.{build_under, build_of}
use Rattle.weights.specs.declared.building.Usage.{Usage}
use Rattle.walk.specs.Walk.{walk_under, walk_of}
use Rattle.spent.specs.Spent.{spent_under, spent_of}
use Rattle.wanted.specs.Wanted.{wanted_under, wanted_of}
use Rattle.compiler.specs.Translation.{compile_under, compile_of}
use Rattle.cumulative.specs.Tables.{export_under, export_of}
use Rattle.lanes.specs.Slicing.{lanes, slice_under, slice_of}
use Rattle.lanes.specs.Samples.{samples_of, signed_samples_of}
use Rattle.programs.specs.Limits.{most_inputs, most_instructions, within_under, within}
use Rattle.programs.specs.Header.{numbers_of, header_under as program_header_under, header_of as program_header_of}
use Rattle.programs.specs.Header.{write_header_under as write_program_header_under, write_header_of as write_program_header_of}
use Rattle.programs.specs.Reading.{WithinUnder, under_means}
use Rattle.programs.specs.Inverse.{header-reads_under}
use Rattle.programs.specs.Raised.{Larger, LargerFile, within_same}
use Rattle.programs.proofs.Raised.{header_raised as program-header-raised}
use Rattle.programs.specs.Raised.{write_header_raised as write-program-header-raised}
use Rattle.programs.specs.declared.description.Program.{Program}
use Rattle.checker.specs.Checks.{Code, check_under, check_of}
use Rattle.checker.specs.Checking.{check_says_under}
use Rattle.machine.specs.Meaning.{word_gates}
use Rattle.machine.specs.Runs.{start_under, start_of, resume_under, resume_of}
use Rattle.drawing.specs.Drawing.{drawn_under, drawn_with, draw_of, draw_signed_of}

-- ---- what has more columns than the old limit allowed
-- rows within their limit, and columns between the two limits
abbrev pub Wider : ℕ → ℕ → ℕ → ℕ → Type 0
Wider most more m n = (outside most_rows m ≡ false) × Between most more n

-- a matrix file that is not short, of its kind, and with such sizes in its header
abbrev pub WiderFile : ℕ → ℕ → List ℕ → Type 0
WiderFile most more file =
    (8 ≤ length file) × (field_of file 2 ≡ 32) × (field_of file 0 ≤ length file) × Wider most more (field_of file 4) (field_of file 6)

-- ---- what is answered as it was under 01's limits
abbrev pub columns_before : ℕ
columns_before = 128

abbrev pub inputs_before : ℕ
inputs_before = 128

abbrev pub instructions_before : ℕ
instructions_before = 131072

-- a matrix file, in everything that takes one
pub record FileAsBefore (file : List ℕ) : Type 0 where
  pub checks : matrix_of file ≡ matrix_under columns_before file
  pub reads : (room : ℕ) → read_of file room ≡ read_under columns_before file room
  pub walks : (string : List ℕ) → walk_of file string ≡ walk_under columns_before file string
  pub spends : (strings : List ℕ) → spent_of file strings ≡ spent_under columns_before file strings
  pub finds : (row room : ℕ) → wanted_of file row room ≡ wanted_under columns_before file row room
  pub compiles : (room : ℕ) → compile_of file room ≡ compile_under columns_before file room
  pub exports : (room : ℕ) → export_of file room ≡ export_under columns_before file room

-- columns, in everything that is told them: for entries, weights and strings
pub record ColumnsAsBefore (n : ℕ) : Type 0 where
  pub tries_sizes : (m : ℕ) → sizes_outside m n ≡ outside_under columns_before m n
  pub tries_strings : (count : ℕ) (bytes : List ℕ) → strings_of count n bytes ≡ strings_under columns_before count n bytes
  pub writes_headers : (m room : ℕ) → write_header_of m n room ≡ write_header_under columns_before m n room
  pub writes : (m : ℕ) (entries : List ℕ) (room : ℕ) → write_of m n entries room ≡ write_under columns_before m n entries room
  pub builds : (usage : Usage) (weights : List ℕ) (room : ℕ) →
      build_of usage weights n room ≡ build_under columns_before usage weights n room
  pub slices : (strings : List ℕ) (room : ℕ) → slice_of n strings room ≡ slice_under columns_before n strings room

-- the numbers of a program
pub record NumbersAsBefore (p : Program) : Type 0 where
  pub tries_limits : within p ≡ within_under inputs_before instructions_before p
  pub writes_headers : (room : ℕ) → write_program_header_of p room ≡ write_program_header_under inputs_before instructions_before p room

-- a program file, in everything that takes one
pub record ProgramAsBefore (file : List ℕ) : Type 0 where
  pub reads_headers : program_header_of file ≡ program_header_under inputs_before instructions_before file
  pub checks : check_of file ≡ check_under inputs_before instructions_before file
  pub starts : (inputs registers outputs : List ℕ) (budget : ℕ) →
      start_of file inputs registers outputs budget ≡
      start_under word_gates inputs_before instructions_before file inputs registers outputs budget
  pub resumes : (inputs registers outputs : List ℕ) (position budget : ℕ) →
      resume_of file inputs registers outputs position budget ≡
      resume_under word_gates inputs_before instructions_before file inputs registers outputs position budget
  pub draws : (strings : List ℕ) (room : ℕ) →
      draw_of file strings room ≡
      drawn_under columns_before inputs_before instructions_before file strings room (λ rows outputs. samples_of rows outputs room)
  pub draws_signed : (strings : List ℕ) (sign room : ℕ) →
      draw_signed_of file strings sign room ≡
      drawn_under columns_before inputs_before instructions_before file strings room
      (λ rows outputs. signed_samples_of rows outputs sign room)

-- ---- raising the limit of columns, where these are told
module _ (most more n : ℕ) (h : most ≤ more) where
  pub strings_raised : (count : ℕ) (bytes : List ℕ) →
      Raised (Between most more n) 3 (strings_under most count n bytes) (strings_under more count n bytes)
  unfolding strings_under
  strings_raised count bytes = limit_raised most more n h _

  pub slice_raised : (strings : List ℕ) (room : ℕ) →
      Raised (Between most more n) 3 (slice_under most n strings room) (slice_under more n strings room)
  unfolding slice_under
  slice_raised strings room = raised_front (strings_raised lanes strings) _

  pub write_header_raised : (m room : ℕ) →
      Raised (Wider most more m n) 3 (write_header_under most m n room) (write_header_under more m n room)
  unfolding write_header_under
  write_header_raised m room = raised_behind 3 (outside most_rows m) (limit_raised most more n h _)

  pub write_raised : (m : ℕ) (entries : List ℕ) (room : ℕ) →
      Raised (Wider most more m n) 3 (write_under most m n entries room) (write_under more m n entries room)
  unfolding write_under
  write_raised m entries room = raised_behind 3 (outside most_rows m) (limit_raised most more n h _)

  pub build_raised : (usage : Usage) (weights : List ℕ) (room : ℕ) →
      Raised (Wider most more (length weights) n) 3 (build_under most usage weights n room) (build_under more usage weights n room)
  unfolding build_under
  build_raised usage weights room = raised_behind 3 (outside most_rows (length weights)) (limit_raised most more n h _)

-- ---- where a matrix file's header has them
module _ (most more : ℕ) (h : most ≤ more) (file : List ℕ) where
  sizes_raised : Raised (Wider most more (field_of file 4) (field_of file 6)) 3 (sizes_under most file) (sizes_under more file)
  unfolding sizes_under
  sizes_raised = raised_behind 3 (outside most_rows (field_of file 4)) (limit_raised most more (field_of file 6) h _)

  header_raised : Raised (WiderFile most more file) 3 (header_under most file) (header_under more file)
  unfolding header_under
  header_raised =
      raised_when
      (raised_behind 1 (ltb (length file) 4) (raised_behind 2 (not (eqb (field_of file 2) 32)) (raised_behind 1 (ltb (length file) 8)
      (raised_behind 1 (ltb (length file) (field_of file 0)) sizes_raised)))) plainly
    where
      plainly : ((ltb (length file) 4 ≡ false) × ((not (eqb (field_of file 2) 32) ≡ false) × ((ltb (length file) 8 ≡ false) ×
          ((ltb (length file) (field_of file 0) ≡ false) × Wider most more (field_of file 4) (field_of file 6))))) ↔
          WiderFile most more file
      plainly = (
        (λ t. (
          ltb-false (length file) 8 t.1.1.0,
          eqb-true (field_of file 2) 32 (not-false _ t.1.0),
          ltb-false (length file) (field_of file 0) t.1.1.1.0,
          t.1.1.1.1,
        )),
        (λ x. (
          le-ltb (length file) 4 (omega (arith, x.0)),
          (
            rw (eq-eqb (field_of file 2) 32 x.1),
            (le-ltb (length file) 8 x.0, (le-ltb (length file) (field_of file 0) x.2, x.3)),
          ),
        )),
      )

  pub matrix_raised : Raised (WiderFile most more file) 3 (matrix_under most file) (matrix_under more file)
  unfolding matrix_under
  matrix_raised = raised_then (body_of file) (body_of file) header_raised (λ s e. refl)

  -- what goes on from the matrix alone
  from-matrix : {B : Type 0} (rest : Matrix → Outcome B) →
      Raised (WiderFile most more file) 3 (matrix_under most file >>= rest) (matrix_under more file >>= rest)
  from-matrix rest = raised_then rest rest matrix_raised (λ M e. refl)

  -- and what goes on from the matrix and from strings of its columns: a matrix that was read has no columns above the old limit
  with_strings : {B : Type 0} (count : ℕ) (bytes : List ℕ) (rest : Matrix → Outcome B) →
      Raised (WiderFile most more file) 3 (matrix_under most file >>= λ M. strings_under most count M.columns bytes >> rest M)
      (matrix_under more file >>= λ M. strings_under more count M.columns bytes >> rest M)
  with_strings count bytes rest =
      raised_then _ _ matrix_raised
      (λ M e. let few = (matrix-columns most file M e).1 in
      let same = raised_elsewhere (strings_raised most more M.columns h count bytes) (λ x. omega (arith, few, x.0)) in
      ap (λ (o : Outcome (Unit {0})). o >> rest M) same)

  pub read_raised : (room : ℕ) → Raised (WiderFile most more file) 3 (read_under most file room) (read_under more file room)
  unfolding read_under
  read_raised room = from-matrix _

  pub walk_raised : (string : List ℕ) → Raised (WiderFile most more file) 3 (walk_under most file string) (walk_under more file string)
  unfolding walk_under
  walk_raised string = with_strings 1 string _

  pub spent_raised : (strings : List ℕ) → Raised (WiderFile most more file) 3 (spent_under most file strings)
      (spent_under more file strings)
  unfolding spent_under
  spent_raised strings = with_strings lanes strings _

  pub string_for_raised : (row room : ℕ) →
      Raised (WiderFile most more file) 3 (wanted_under most file row room) (wanted_under more file row room)
  unfolding wanted_under
  string_for_raised row room = from-matrix _

  pub compile_raised : (room : ℕ) → Raised (WiderFile most more file) 3 (compile_under most file room) (compile_under more file room)
  unfolding compile_under
  compile_raised room = from-matrix _

  pub export_raised : (room : ℕ) → Raised (WiderFile most more file) 3 (export_under most file room) (export_under more file room)
  unfolding export_under
  export_raised room = from-matrix _

-- ---- raising a program's limits of inputs and instructions
-- a program that is accepted is within its limits, and its numbers are the header's
accepted_under : (wide long : ℕ) (file : List ℕ) (c : Code) → check_under wide long file ≡ gives c →
    (numbers_of file ≡ c.program) × WithinUnder wide long c.program
accepted_under wide long file c e =
    let r = header-reads_under wide long file c.program (check_says_under wide long file c e).0 in
    (r.numbers, under_means wide long c.program r.inside)

module _ (wide wider long longer : ℕ) (h : wide ≤ wider) (l : long ≤ longer) (file : List ℕ) where
  pub check_raised : Raised (LargerFile wide wider long longer file) 3 (check_under wide long file) (check_under wider longer file)
  unfolding check_under
  check_raised = raised_then _ _ (program-header-raised wide wider long longer h l file) (λ p e. refl)

  -- what goes on from the program alone
  from-program : {B : Type 0} (rest : Code → Outcome B) →
      Raised (LargerFile wide wider long longer file) 3 (check_under wide long file >>= rest) (check_under wider longer file >>= rest)
  from-program rest = raised_then rest rest check_raised (λ c e. refl)

  pub start_raised : (inputs registers outputs : List ℕ) (budget : ℕ) →
      Raised (LargerFile wide wider long longer file) 3 (start_under word_gates wide long file inputs registers outputs budget)
      (start_under word_gates wider longer file inputs registers outputs budget)
  unfolding start_under
  start_raised inputs registers outputs budget = from-program _

  pub resume_raised : (inputs registers outputs : List ℕ) (position budget : ℕ) →
      Raised (LargerFile wide wider long longer file) 3
      (resume_under word_gates wide long file inputs registers outputs position budget)
      (resume_under word_gates wider longer file inputs registers outputs position budget)
  unfolding resume_under
  resume_raised inputs registers outputs position budget = from-program _

  -- drawing slices as many columns as the program has inputs: where at least as many columns are allowed as inputs, that is never 3
  module _ (most more : ℕ) (a : wide ≤ most) (b : most ≤ more) {A : Type 0} (strings : List ℕ) (room : ℕ)
      (read : ℕ → List ℕ → Outcome A) where
    sliced_alike : (c : Code) → check_under wide long file ≡ gives c →
        let n = c.program.inputs in
        slice_under more n strings n ≡ slice_under most n strings n
    sliced_alike c e =
        let few = (accepted_under wide long file c e).1.few_inputs in
        raised_elsewhere (slice_raised most more c.program.inputs b strings c.program.inputs) (λ x. omega (arith, few, x.0))

    started_alike : (c : Code) → check_under wide long file ≡ gives c → (words : List ℕ) →
        let p = c.program in
        start_under word_gates wider longer file words (replicate p.registers 0) (replicate p.outputs 0) p.count ≡
        start_under word_gates wide long file words (replicate p.registers 0) (replicate p.outputs 0) p.count
    unfolding start_under
    started_alike c e words = rw (raised_result check_raised c e, e)

    pub draw_raised : Raised (LargerFile wide wider long longer file) 3 (drawn_under most wide long file strings room read)
        (drawn_under more wider longer file strings room read)
    unfolding drawn_under
    draw_raised =
        raised_then _ _ check_raised
        (λ c e. rw (sliced_alike c e) (bind_eq (slice_under most c.program.inputs strings c.program.inputs) _ _
        (λ words k. rw (started_alike c e words))))

-- ---- what is answered where it was 3 under 01's limits
-- every matrix file that is accepted with more columns
pub matrix_newly : (file : List ℕ) (M : Matrix) → matrix_of file ≡ gives M → columns_before < M.columns →
    matrix_under columns_before file ≡ refused 3
matrix_newly file M e more =
    let r = matrix_raised columns_before most_columns (omega arith) file in
    ⊎_elim (λ s. absurd (omega (arith, more, (matrix-columns columns_before file M (sym s ∙ e)).1))) r.there r.only

-- and every program file that is accepted with more inputs or more instructions
pub program_newly : (file : List ℕ) (c : Code) → check_of file ≡ gives c →
    (inputs_before < c.program.inputs) ⊎ (instructions_before < c.program.count) →
    check_under inputs_before instructions_before file ≡ refused 3
program_newly file c e more =
    let r = check_raised inputs_before most_inputs instructions_before most_instructions (omega arith) (omega arith) file in
    ⊎_elim
    (λ s. let w = (accepted_under inputs_before instructions_before file c (sym s ∙ e)).1 in
    absurd (⊎_elim (λ x. omega (arith, x, w.few_inputs)) (λ x. omega (arith, x, w.few_instructions)) more)) r.there r.only

-- ---- whatever is within 01's limits is answered as it was under them
-- every matrix file that says at most 128 columns
module _ (file : List ℕ) (few : field_of file 6 ≤ columns_before) where
  not_wider : WiderFile columns_before most_columns file → ⊥
  not_wider x = omega (arith, x.3.1.0, few)

  alike : {A : Type 0} {before now : Outcome A} → Raised (WiderFile columns_before most_columns file) 3 before now → now ≡ before
  alike r = raised_elsewhere r not_wider

  pub file_as_before : FileAsBefore file
  file_as_before =
      record {
        checks = alike (matrix_raised columns_before most_columns (omega arith) file);
        reads = λ room. alike (read_raised columns_before most_columns (omega arith) file room);
        walks = λ string. alike (walk_raised columns_before most_columns (omega arith) file string);
        spends = λ strings. alike (spent_raised columns_before most_columns (omega arith) file strings);
        finds = λ row room. alike (string_for_raised columns_before most_columns (omega arith) file row room);
        compiles = λ room. alike (compile_raised columns_before most_columns (omega arith) file room);
        exports = λ room. alike (export_raised columns_before most_columns (omega arith) file room);
      }

-- every matrix, weight list and batch of strings of at most 128 columns
pub columns_as_before : (n : ℕ) → n ≤ columns_before → ColumnsAsBefore n
columns_as_before n few =
    record {
      tries_sizes = λ m. ap (λ (b : Bool). outside most_rows m || b) (outside-same columns_before most_columns n (omega arith) few);
      tries_strings = λ count bytes. raised_elsewhere (strings_raised columns_before most_columns n (omega arith) count bytes) none;
      writes_headers = λ m room.
          raised_elsewhere (write_header_raised columns_before most_columns n (omega arith) m room) (λ x. none x.1);
      writes = λ m entries room.
          raised_elsewhere (write_raised columns_before most_columns n (omega arith) m entries room) (λ x. none x.1);
      builds = λ usage weights room.
          raised_elsewhere (build_raised columns_before most_columns n (omega arith) usage weights room) (λ x. none x.1);
      slices = λ strings room. raised_elsewhere (slice_raised columns_before most_columns n (omega arith) strings room) none;
    }
  where
    none : Between columns_before most_columns n → ⊥
    none x = omega (arith, x.0, few)

-- numbers of at most 128 inputs and 131,072 instructions
module _ (p : Program) (few : p.inputs ≤ inputs_before) (short : p.count ≤ instructions_before) where
  not_larger : Larger inputs_before most_inputs instructions_before most_instructions p → ⊥
  not_larger x = ⊎_elim (λ y. omega (arith, y, few)) (λ y. omega (arith, y, short)) x.1

  pub numbers_as_before : NumbersAsBefore p
  numbers_as_before =
      record {
        tries_limits =
            within_same inputs_before most_inputs instructions_before most_instructions (omega arith) (omega arith) p few short;
        writes_headers = λ room.
            raised_elsewhere
            (write-program-header-raised inputs_before most_inputs instructions_before most_instructions (omega arith) (omega arith) p room)
            not_larger;
      }

-- every program file that says so
module _ (file : List ℕ) (few : (numbers_of file).inputs ≤ inputs_before) (short : (numbers_of file).count ≤ instructions_before) where
  as_before : {A : Type 0} {before now : Outcome A} →
      Raised (LargerFile inputs_before most_inputs instructions_before most_instructions file) 3 before now → now ≡ before
  as_before r = raised_elsewhere r (λ x. not_larger (numbers_of file) few short x.3)

  draws_alike : {A : Type 0} (strings : List ℕ) (room : ℕ) (read : ℕ → List ℕ → Outcome A) →
      drawn_with file strings room read ≡ drawn_under columns_before inputs_before instructions_before file strings room read
  draws_alike strings room read =
      as_before
      (draw_raised inputs_before most_inputs instructions_before most_instructions (omega arith) (omega arith) file columns_before
      most_columns (omega arith) (omega arith) strings room read)

  pub program_as_before : ProgramAsBefore file
  program_as_before =
      record {
        reads_headers =
            as_before
            (program-header-raised inputs_before most_inputs instructions_before most_instructions (omega arith) (omega arith) file);
        checks =
            as_before (check_raised inputs_before most_inputs instructions_before most_instructions (omega arith) (omega arith) file);
        starts = λ inputs registers outputs budget.
            as_before
            (start_raised inputs_before most_inputs instructions_before most_instructions (omega arith) (omega arith) file inputs registers
            outputs budget);
        resumes = λ inputs registers outputs position budget.
            as_before
            (resume_raised inputs_before most_inputs instructions_before most_instructions (omega arith) (omega arith) file inputs registers
            outputs position budget);
        draws = λ strings room. draws_alike strings room (λ rows outputs. samples_of rows outputs room);
        draws_signed = λ strings sign room. draws_alike strings room (λ rows outputs. signed_samples_of rows outputs sign room);
      }

-- and so every program that was accepted
pub accepted_as_before : (file : List ℕ) (c : Code) → check_under inputs_before instructions_before file ≡ gives c → ProgramAsBefore file
accepted_as_before file c e =
    let (same, w) = accepted_under inputs_before instructions_before file c e in
    program_as_before file (rw same w.few_inputs) (rw same w.few_instructions)
