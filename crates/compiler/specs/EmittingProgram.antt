-- Code that compiles a matrix file: the program of packed rows is that of their matrix, what is known of it before the first byte is
-- written, and the ways through the checks. Assumes nothing.
use Prim.Native.Nat.{ℕ, zero, suc, ◌+◌, ◌-◌, ◌*◌, ◌≤◌, ◌<◌}
use Rattle.std.specs.Prelude.{◌≡◌, true, List, ◌++◌, drop}
use Rattle.std.proofs.Math.Path.{refl, ap}
use Rattle.std.proofs.Common.{sym, ◌∙◌, arith, length-append}
use borrow.Author.Tests.{lt-ltb}
use Rattle.std.proofs.Math.ListN.{length}
use Rattle.laws.specs.Lists.{blocks, blocks-eq}
use Rattle.laws.specs.Lay.{lay, lay-is, length-lay, laid-after}
use Rattle.laws.specs.Outcome.{refused, gives, mapped, laid, mapped-gives, mapped-refused}
use Rattle.fields.specs.Fields.{width, bit_le}
use Rattle.files.specs.Matrix.{Matrix, Accepted, sizes, bit, most_rows}
use Rattle.fields.specs.Limits.{most_columns}
use Rattle.files.specs.Files.{matrix_of, unpacked}
use Rattle.files.specs.Live.{ones-eq}
use Rattle.files.specs.Checks.{unpacked_bit, matrix_read, checked-whole}
use Rattle.files.specs.RoundTrip.{read_accepted}
use Rattle.programs.specs.Width.{row_bits}
use Rattle.programs.specs.Limits.{most_instructions, within}
use Rattle.programs.specs.Reading.{Within, within_means, header-long, write_header-gives}
use Rattle.programs.specs.Header.{header_length, header_bytes, write_header_of, code_bytes, program_file}
use Rattle.programs.specs.declared.description.Program.{Program}
use Rattle.programs.specs.declared.description.Instruction.{Instruction}
use Rattle.compiler.specs.Translation.{begin, marks, end, column, live_before, translation_of}
use Rattle.compiler.specs.Translation.{translation, program, compiled, compile_under, compile_of}
use Rattle.compiler.specs.Room.{Roomy, accepted-roomy}
use Rattle.compiler.specs.Size.{size, whole_length, whole-size, whole_bytes}
use Rattle.compiler.specs.Compiled.{sound, compile_fits}
use Rattle.compiler.specs.Emitting.{length-code, Fit, Emitted, emitted_after}
use Rattle.compiler.specs.EmittingColumns.{packed_rows}

-- bit c of row v, in packed rows of n bits each
abbrev pub rows_of : List ℕ → ℕ → ℕ → ℕ → ℕ
rows_of bytes n = packed_rows bytes (width n)

-- the matrix of m of them
abbrev pub packed_matrix : List ℕ → ℕ → ℕ → Matrix
packed_matrix bytes m n = unpacked bytes (record { rows = m; columns = n })

-- the header of a program whose columns are `count` instructions
abbrev pub described : ℕ → ℕ → ℕ → ℕ → Program
described k m n count = record { registers = 3 + k + 3 * m; inputs = n; outputs = 1 + k; rows = m; count = 3 + 2 * k + count }

-- packed rows of an accepted matrix
pub record Packed (bytes : List ℕ) (m n : ℕ) : Type 0 where
  pub some_rows : 1 ≤ m
  pub few_rows : m ≤ most_rows
  pub few_columns : n ≤ most_columns
  pub roomy : Roomy m n (rows_of bytes n)
  pub accepted_matrix : Accepted (packed_matrix bytes m n)

-- what is counted of their program: k, and the instructions of the columns
pub record Counts (bytes : List ℕ) (m n k count : ℕ) : Type 0 where
  pub k_is : k ≡ row_bits m
  pub columns : count ≡ length (blocks n (column (row_bits m) m (rows_of bytes n)))

-- and its bytes
pub record Measured (bytes : List ℕ) (m n k count long : ℕ) : Type 0 where
  pub counts : Counts bytes m n k count
  pub all : long ≡ length (compiled (packed_matrix bytes m n))

-- what that says of writing it into a buffer: its registers and header are within the limits, and its parts have room
pub record Planned (bytes : List ℕ) (m n k count room : ℕ) : Type 0 where
  pub limits : within (described k m n count) ≡ true
  pub header : Within (described k m n count)
  pub fit : Fit k m
  pub parts : header_length + (size (begin k) + size (blocks n (column k m (rows_of bytes n))) + size (end k)) ≤ room

-- ---- the program depends on the bits within the sizes alone
module _ (m n : ℕ) (f g : ℕ → ℕ → ℕ) (same : (v c : ℕ) → v < m → c < n → f v c ≡ g v c) where
  live-eq : (c : ℕ) → c ≤ n → live_before f m c ≡ live_before g m c
  unfolding live_before
  live-eq zero h = refl
  live-eq (suc c) h = rw (live-eq c (omega arith), ones-eq f g m n same m c (omega arith) h)

  marks-eq : (k r j c : ℕ) → r ≤ m → c < n → marks k m (λ v. f v c) r j ≡ marks k m (λ v. g v c) r j
  unfolding marks
  marks-eq k zero j c l h = refl
  marks-eq k (suc r) j c l h = rw (same r c l h, marks-eq k r (j + g r c) c (omega arith) h)

  column-eq : (k c : ℕ) → c < n → column k m f c ≡ column k m g c
  unfolding column
  column-eq k c h =
      let ones = ones-eq f g m n same m c (omega arith) h in
      rw (live-eq c (omega arith), live-eq (suc c) h, ones, marks-eq k m 0 c (omega arith) h)

  translation-eq : (k : ℕ) → translation_of k m n f ≡ translation_of k m n g
  translation-eq k = rw (blocks-eq n (column k m f) (column k m g) (λ c h. column-eq k c h))

  roomy-eq : ((v c : ℕ) → v < m → c < n → g v c ≤ 1) → Roomy m n f → Roomy m n g
  roomy-eq ok r =
      record {
        some_rows = r.some_rows;
        bits = ok;
        room = λ c h. omega (arith, r.room c h, ones-eq f g m n same m c (omega arith) h, live-eq c (omega arith));
      }

-- ---- the program of packed rows, by what is counted of it
module _ {bytes : List ℕ} {m n k count : ℕ} (s : Counts bytes m n k count) where
  abbrev code : List Instruction
  code = translation_of k m n (rows_of bytes n)

  translation-packed : translation (packed_matrix bytes m n) ≡ code
  unfolding translation unpacked
  translation-packed =
      let same = unpacked_bit bytes (record { rows = m; columns = n }) in
      rw s.k_is (translation-eq m n (bit (packed_matrix bytes m n)) (rows_of bytes n) same (row_bits m))

  program-packed : program (packed_matrix bytes m n) ≡ described k m n count
  unfolding program unpacked
  program-packed =
      let l : length (translation (packed_matrix bytes m n)) ≡ 3 + 2 * k + count =
      ap length translation-packed ∙ (whole_length k m n (rows_of bytes n) ∙ rw (s.k_is, s.columns)) in
      rw (l, s.k_is)

  compiled-packed : compiled (packed_matrix bytes m n) ≡ program_file (described k m n count) code
  unfolding compiled
  compiled-packed = rw (program-packed, translation-packed)

  compiled-length : length (compiled (packed_matrix bytes m n)) ≡ header_length + size code
  unfolding program_file
  compiled-length =
      ap length compiled-packed ∙
      (length-append (header_bytes (described k m n count)) (code_bytes code) ∙
      omega (arith, header-long (described k m n count), length-code code))

  code_bytes_lem : (4 * n ≤ 10 * count) × (6 * (2 + k) + 10 * count - 4 * n + 8 * (1 + k) ≡ size code)
  code_bytes_lem = whole_bytes k m (rows_of bytes n) n count (rw s.k_is s.columns)

  -- ---- what the measures say
  limits : Packed bytes m n → within (described k m n count) ≡ true
  limits p = rw program-packed at (sound (packed_matrix bytes m n) p.accepted_matrix).limits

  pub countable : Packed bytes m n → (3 + 2 * k + count ≤ most_instructions) × (4 * n ≤ 10 * count)
  countable p = ((within_means (described k m n count) (limits p)).few_instructions, code_bytes_lem.0)

  pub measured : {long : ℕ} → long ≡ header_length + 6 * (2 + k) + 10 * count - 4 * n + 8 * (1 + k) → Measured bytes m n k count long
  measured e = record { counts = s; all = omega (arith, e, code_bytes_lem.0, code_bytes_lem.1, compiled-length) }

pub planned : {bytes : List ℕ} {m n k count long room : ℕ} → Packed bytes m n → Measured bytes m n k count long → long ≤ room →
    Planned bytes m n k count room
planned {bytes} {m} {n} {k} {count} p s h =
    let w = limits s.counts p in
    let l = within_means (described k m n count) w in
    record {
      limits = w;
      header = l;
      fit = record { registers = l.few_registers; outputs = l.few_outputs };
      parts = omega (arith, s.all, compiled-length s.counts, whole-size k m (rows_of bytes n) n);
    }

-- ---- the program is written as measured: its header, then its instructions
pub program-written : {bytes : List ℕ} {m n k count long : ℕ} {p : Program} (buf : List ℕ) {head b1 b2 now : List ℕ} {at at' next : ℕ} →
    Measured bytes m n k count long → Planned bytes m n k count (length buf) → p ≡ described k m n count →
    head ≡ lay (laid (λ bytes. bytes) (write_header_of p (length buf))) buf →
    Emitted header_length (begin k) head b1 at → Emitted at (blocks n (column k m (rows_of bytes n))) b1 b2 at' →
    Emitted at' (end k) b2 now next → now ≡ lay (compiled (packed_matrix bytes m n)) buf
unfolding program_file
program-written {bytes} {m} {n} {k} {count} buf {head = head} {now = now} s l q e a b c =
    let first : List ℕ = header_bytes (described k m n count) in
    let code : List ℕ = code_bytes (translation_of k m n (rows_of bytes n)) in
    let bytes-first = header-long (described k m n count) in
    let written = emitted_after (emitted_after a b) c in
    let is : head ≡ lay first buf =
    rw (q, write_header-gives (described k m n count) (length buf) l.limits (omega (arith, l.parts))) at e in
    let long : length head ≡ length buf = ap length is ∙ length-lay first buf (omega (arith, l.parts)) in
    rw (compiled-packed s.counts)
    ((laid-after 0 header_length first code buf head now (omega arith)
    (omega (arith, length-code (translation_of k m n (rows_of bytes n)), written.behind, written.room)) written.laid.is
    (record { long = long; is = is ∙ sym (lay-is first buf) })).is ∙
    lay-is (first ++ code) buf)

-- ---- the ways through the checks
pub compile_refused : (file : List ℕ) (room n : ℕ) → refused n ≡ mapped sizes (matrix_of file) → compile_of file room ≡ refused n
unfolding compile_under
compile_refused file room n e = rw (mapped-refused sizes (matrix_of file) n e)

module _ (file : List ℕ) {bytes : List ℕ} {m n : ℕ} (behind : bytes ≡ drop 8 file)
    (checked : gives (record { rows = m; columns = n }) ≡ mapped sizes (matrix_of file)) where
  checked-matrix : matrix_of file ≡ gives (packed_matrix bytes m n)
  checked-matrix =
      let g = mapped-gives sizes (matrix_of file) (record { rows = m; columns = n }) checked in
      rw behind (g.1 ∙ ap gives ((matrix_read file g.0 g.1).is ∙ ap (unpacked (drop 8 file)) g.2))

  pub checked-packed : Packed bytes m n
  unfolding unpacked
  checked-packed =
      let w = checked-whole file (record { rows = m; columns = n }) checked in
      let a = read_accepted file (packed_matrix bytes m n) checked-matrix in
      record {
        some_rows = w.some_rows;
        few_rows = w.few_rows;
        few_columns = w.few_columns;
        roomy =
            roomy-eq m n (bit (packed_matrix bytes m n)) (rows_of bytes n) (unpacked_bit bytes (record { rows = m; columns = n }))
            (λ v c h l. bit_le 8 bytes (v * width n) c) (accepted-roomy (packed_matrix bytes m n) a);
        accepted_matrix = a;
      }

  module _ {k count long : ℕ} (room : ℕ) (s : Measured bytes m n k count long) where
    pub compile_short : room < long → compile_of file room ≡ refused 13
    unfolding compile_under
    compile_short h = rw (checked-matrix, lt-ltb room (length (compiled (packed_matrix bytes m n))) (omega (arith, s.all)))

    pub compile_gives : long ≤ room → compile_of file room ≡ gives (compiled (packed_matrix bytes m n))
    compile_gives h = compile_fits file room (packed_matrix bytes m n) checked-matrix (omega (arith, s.all))
