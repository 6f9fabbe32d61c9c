-- What the lister needs of compiling and of instructions, and why it reads no more than the front of a long file. Assumes nothing.
use Rattle.std.specs.Prelude.{ℕ, ◌≤◌, ◌<◌, ◌≡◌, refl, Bool, true, false, not, cond, List, eqb, length, get_or, take}
use Rattle.std.proofs.Common.{arith, le-ltb, ne_eqb, length-take-le}
use Rattle.laws.specs.Outcome.{Outcome, refused, gives, refuse, ◌>>◌, mapped, mapped-gives}
use Rattle.fields.specs.Fields.{field_of, field-small, field-front}
use Rattle.files.specs.Matrix.{most_rows}
use Rattle.files.specs.declared.headers.Sizes.{Sizes}
use Rattle.fields.specs.Limits.{outside, most_columns}
use Rattle.files.specs.Files.{file_length, sizes_under, header_under, header_of, matrix_under}
use Rattle.programs.specs.Instructions.{length_of}
use Rattle.programs.specs.declared.description.Instruction.{Instruction}
use Rattle.programs.specs.declared.description.Instruction.TheVariants.{Ones, Zero, Input, Not, And, Or, Output}
use Rattle.compiler.specs.Translation.{compile_under, compile_of}
use Rattle.compiler.specs.Compiled.{compile_lays}

pub length-few : (i : Instruction) → length_of i ≤ 10
length-few (Ones to) = omega arith
length-few (Zero to) = omega arith
length-few (Input to n) = omega arith
length-few (Not to a) = omega arith
length-few (And to a b) = omega arith
length-few (Or to a b) = omega arith
length-few (Output o a) = omega arith

-- what compile answers lies within its buffer
pub program-fits : (file : List ℕ) (room n : ℕ) → gives n ≡ mapped length (compile_of file room) → n ≤ room
program-fits file room n e =
    let (code, c, long) = mapped-gives length (compile_of file room) n e in
    let (M, m, same, fits) = compile_lays file code room c in
    rw (← long) fits

-- ---- a file longer than any length field is refused, and its kind, rows and columns say by which number: 2, 3, or 4 for the length field
-- or for bytes left over
unfoldable long_number : ℕ → ℕ → ℕ → ℕ
long_number kind m n = cond (not (eqb kind 32)) 2 (cond (outside most_rows m) 3 (cond (outside most_columns n) 3 4))

long-checks : (a b c d : Bool) →
    ◌≡◌ {A = Outcome Sizes} (refuse 2 a >> (refuse 3 b >> (refuse 3 c >> (refuse 4 d >> refused 4))))
    (refused (cond a 2 (cond b 3 (cond c 3 4))))
long-checks true b c d = refl
long-checks false true c d = refl
long-checks false false true d = refl
long-checks false false false true = refl
long-checks false false false false = refl

long-header : (file : List ℕ) → 8 ≤ length file → field_of file 0 < length file →
    header_of file ≡ refused (long_number (field_of file 2) (field_of file 4) (field_of file 6))
unfolding header_under sizes_under long_number
long-header file a b =
    rw (
      le-ltb (length file) 4 (omega arith),
      le-ltb (length file) 8 a,
      le-ltb (length file) (field_of file 0) (omega arith),
      ne_eqb (length file) (field_of file 0) (λ e. omega arith),
    )
    (long-checks (not (eqb (field_of file 2) 32)) (outside most_rows (field_of file 4)) (outside most_columns (field_of file 6))
    (not (eqb (field_of file 0) (file_length (field_of file 4) (field_of file 6)))))

-- so the front of such a file, if it too is longer than any length field, comes to what all of the file does
pub front_decides : (most : ℕ) (file : List ℕ) (room : ℕ) → ((i : ℕ) → get_or file i 0 < 256) → 65536 ≤ most → most ≤ length file →
    compile_of (take most file) room ≡ compile_of file room
unfolding compile_under matrix_under
front_decides most file room bytes a b =
    let same = field-front most file in
    let long : length (take most file) ≡ most = length-take-le most file b in
    let small : field_of file 0 < 65536 = field-small file 0 (bytes 0) (bytes 1) in
    let front = long-header (take most file) (rw long (omega arith)) (rw (same 0 (omega arith), long) (omega arith)) in
    rw (front, long-header file (omega arith) (omega arith), same 2 (omega arith), same 4 (omega arith), same 6 (omega arith))
