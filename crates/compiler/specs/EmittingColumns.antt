-- Code that counts and writes the columns of a program: how the rows of a column are met, and how one column follows another. Assumes
-- nothing.
use Prim.Native.Nat.{ℕ, suc, ◌+◌, ◌*◌, ◌-◌, ◌^◌, ◌≤◌, ◌<◌, min}
use Rattle.std.specs.Prelude.{◌≡◌, refl, length}
use Rattle.std.proofs.Common.{sym, ap, ◌∙◌, mul-le-mul, add-one, length-append}
use mathlib.Core.List.{List, [], ◌++◌, append_assoc, append-nil}
use native.Mathlib.Omega.{arith}
use Rattle.std.specs.Int.Count as Count
use Rattle.laws.specs.Sums.{sum_to, sum_more}
use Rattle.laws.specs.Tests.{reached}
use Rattle.laws.specs.Lists.{blocks, blocks_more}
use Rattle.fields.specs.Fields.{bit_of}
use Rattle.files.specs.Matrix.{most_rows, ones_in}
use Rattle.fields.specs.Limits.{most_columns}
use Rattle.programs.specs.declared.description.Instruction.{Instruction}
use Rattle.compiler.specs.Translation.{split, if_set, mark, marks, keep, column, live_before}
use Rattle.programs.specs.Width.{row_bits, row_lt}
use Rattle.compiler.specs.Size.{bit-times, column-length, marks-count}
use Rattle.compiler.specs.Emitting.{Fit, Space, space-first, space-next, Emitted, emitted_none, emitted_after}

-- bit c of row v, in packed rows of `stride` bytes each
abbrev pub packed_rows : List ℕ → ℕ → ℕ → ℕ → ℕ
packed_rows bytes stride v c = bit_of bytes (v * stride) c

-- rows and bytes a row within the limits, and registers and outputs too
pub record Shape (k m stride : ℕ) : Type 0 where
  pub fit : Fit k m
  pub few_rows : m ≤ most_rows
  pub few_bytes : stride ≤ most_columns

-- h is the live count before column c
pub record Live (bit : ℕ → ℕ → ℕ) (m c h : ℕ) : Type 0 where
  pub is : h ≡ live_before bit m c
  pub few : h ≤ m

-- what is counted of the first v rows of a column: the set ones, and the instructions that mark them, one and one for each set bit of a
-- row's number
pub record Marked (bits : ℕ → ℕ) (v rows instructions : ℕ) : Type 0 where
  pub set : rows ≡ sum_to v bits
  pub marking : instructions ≡ sum_to v (λ v. bits v * (1 + Count.ones v))
  pub few : rows ≤ v
  pub fewer : instructions ≤ v * 65

-- what is counted of a column, with the live counts before and after it
pub record Passed (bit : ℕ → ℕ → ℕ) (m c h rows instructions live : ℕ) : Type 0 where
  pub before : Live bit m c h
  pub counted : Marked (λ v. bit v c) m rows instructions
  pub after : Live bit m (c + 1) live

-- where a row begins
pub row_fits : (v stride : ℕ) → v ≤ most_rows → stride ≤ most_columns → v * stride < 2 ^ 64
row_fits v stride a b = omega (arith, mul-le-mul {n₁ = v} {m₁ = stride} {n₂ = most_rows} {m₂ = most_columns} a b)

-- ---- counting a column
pub marked_none : (bits : ℕ → ℕ) → Marked bits 0 0 0
unfolding sum_to
marked_none bits = record { set = refl; marking = refl; few = omega arith; fewer = omega arith }

pub mark-few : (v b : ℕ) → v < 2 ^ 64 → b < 2 → b * (1 + Count.ones v) ≤ 65
mark-few v b h l = omega (arith, bit-times b (1 + Count.ones v) l, Count.ones-le 64 v h)

pub marked_more : {bits : ℕ → ℕ} {v rows instructions b : ℕ} → b ≡ bits v → b < 2 → v < 2 ^ 64 → Marked bits v rows instructions →
    Marked bits (v + 1) (rows + b) (instructions + b * (1 + Count.ones v))
marked_more {bits} {v} {b = b} e l h s =
    record {
      set = rw (sum_more v bits) (omega (arith, s.set));
      marking = rw (sum_more v (λ v. bits v * (1 + Count.ones v)), ← e) (omega (arith, s.marking));
      few = omega (arith, s.few);
      fewer = omega (arith, s.fewer, mark-few v b h l);
    }

pub marked_done : {bits : ℕ → ℕ} {m v rows instructions : ℕ} → v ≤ m → m ≤ v → Marked bits v rows instructions →
    Marked bits m rows instructions
marked_done {bits} {m} {v} {rows} {instructions} = reached (λ x. Marked bits x rows instructions) v m

-- ---- a column
pub live-first : (bit : ℕ → ℕ → ℕ) (m : ℕ) → 1 ≤ m → Live bit m 0 1
unfolding live_before
live-first bit m h = record { is = refl; few = h }

pub column-passed : {bit : ℕ → ℕ → ℕ} {m c h rows instructions live : ℕ} → Live bit m c h →
    Marked (λ v. bit v c) m rows instructions → live ≡ min (2 * h - rows) m → Passed bit m c h rows instructions live
unfolding live_before ones_in
column-passed {c = c} before counted e =
    record {
      before = before;
      counted = counted;
      after = record { is = rw (add-one c) (e ∙ rw (counted.set, before.is)); few = omega arith };
    }

module _ (k : ℕ) {bit : ℕ → ℕ → ℕ} {m c h w instructions h' : ℕ} (p : Passed bit m c h w instructions h') where
  column-is : column k m bit c ≡ split k m c h ++ marks k m (λ v. bit v c) m 0 ++ keep k m w h'
  unfolding column ones_in
  column-is = rw (p.counted.set, p.before.is, rw (add-one c) at p.after.is)

  -- room for its pieces, one after another
  module _ {at : ℕ} {buf : List ℕ} (s : Space at (column k m bit c) buf) where
    pub split-space : Space at (split k m c h) buf
    split-space = space-first _ (marks k m (λ v. bit v c) m 0) (space-first _ (keep k m w h') (rw column-is at s))

    module _ {to : ℕ} {b1 : List ℕ} (a : Emitted at (split k m c h) buf b1 to) where
      pub marks-space : Space to (marks k m (λ v. bit v c) m 0) b1
      marks-space = space-next (split k m c h) _ (space-first _ (keep k m w h') (rw column-is at s)) a

      pub keep-space : {to' : ℕ} {b2 : List ℕ} → Emitted to (marks k m (λ v. bit v c) m 0) b1 b2 to' → Space to' (keep k m w h') b2
      keep-space b = space-next (split k m c h ++ marks k m (λ v. bit v c) m 0) _ (rw column-is at s) (emitted_after a b)

  pub column_emitted : {at to to' next : ℕ} {buf b1 b2 now : List ℕ} → Emitted at (split k m c h) buf b1 to →
      Emitted to (marks k m (λ v. bit v c) m 0) b1 b2 to' → Emitted to' (keep k m w h') b2 now next →
      Emitted at (column k m bit c) buf now next
  column_emitted a b d = rw column-is (emitted_after (emitted_after a b) d)

-- ---- the instructions of the first c columns, and the live count after them
pub record Columns (bit : ℕ → ℕ → ℕ) (m n c h count : ℕ) : Type 0 where
  pub passed : c ≤ n
  pub live : Live bit m c h
  pub is : count ≡ length (blocks c (column (row_bits m) m bit))
  pub few : count ≤ c * 10000

pub columns-none : (bit : ℕ → ℕ → ℕ) (m n : ℕ) → 1 ≤ m → Columns bit m n 0 1 0
unfolding blocks
columns-none bit m n h = record { passed = omega arith; live = live-first bit m h; is = refl; few = omega arith }

pub columns_more : {bit : ℕ → ℕ → ℕ} {m n c h w instructions h' count : ℕ} → m ≤ most_rows → ((v : ℕ) → v < m → bit v c ≤ 1) →
    c < n → Columns bit m n c h count → Passed bit m c h w instructions h' →
    Columns bit m n (c + 1) h' (count + (2 + 2 * h + instructions + h'))
columns_more {bit} {m} {c = c} few ok l s p =
    let k : ℕ = row_bits m in
    record {
      passed = omega arith;
      live = p.after;
      is =
          simp (blocks_more c (column k m bit), length-append, column-length)
          (omega (
            arith,
            s.is,
            s.live.is,
            p.after.is,
            ap (live_before bit m) (add-one c),
            p.counted.marking,
            marks-count k m (λ v. bit v c) m ok (row_lt m),
          ));
      few = omega (arith, s.few, s.live.few, p.counted.fewer, p.after.few);
    }

pub columns-done : {bit : ℕ → ℕ → ℕ} {m n c h count : ℕ} → n ≤ c → Columns bit m n c h count →
    count ≡ length (blocks n (column (row_bits m) m bit))
columns-done {bit} {m} {n} {c} {count = count} l s =
    reached (λ x. count ≡ length (blocks x (column (row_bits m) m bit))) c n s.passed l s.is

-- ---- a loop over the rows of a column, from m - 1 down: all have room, v of them are ahead, and of those passed j are set
pub record Rows (k m : ℕ) (bits : ℕ → ℕ) (at : ℕ) (buf : List ℕ) (v j : ℕ) (now : List ℕ) (to : ℕ) : Type 0 where
  pub few : v + j ≤ m
  pub space : Space at (marks k m bits m 0) buf
  pub done : List Instruction
  pub is : marks k m bits m 0 ≡ done ++ marks k m bits v j
  pub so_far : Emitted at done buf now to

pub rows_none : {k m : ℕ} {bits : ℕ → ℕ} {at : ℕ} {buf : List ℕ} → Space at (marks k m bits m 0) buf → Rows k m bits at buf m 0 buf at
rows_none s = record { few = omega arith; space = s; done = []; is = refl; so_far = emitted_none s }

module _ {k m : ℕ} {bits : ℕ → ℕ} {at v j to : ℕ} {buf now : List ℕ} (r : Rows k m bits at buf v j now to) where
  pub rows-done : v ≤ 0 → Emitted at (marks k m bits m 0) buf now to
  unfolding marks
  rows-done h =
      let z : v ≡ 0 = omega arith in
      let all : marks k m bits m 0 ≡ r.done = r.is ∙ rw (z, append-nil r.done) in
      rw all r.so_far

  -- the next row w, with j set rows met before it
  module _ {w b : ℕ} (h : w + 1 ≡ v) (e : b ≡ bits w) (l : b < 2) where
    row_is : marks k m bits m 0 ≡ r.done ++ (if_set b (mark k m w j) ++ marks k m bits w (j + b))
    unfolding marks
    row_is =
        let p : v ≡ suc w = omega arith in
        rw e (r.is ∙ ap (λ (x : ℕ). r.done ++ marks k m bits x j) p)

    pub row-space : Space to (if_set b (mark k m w j)) now
    row-space = space-first _ _ (space-next r.done _ (rw row_is at r.space) r.so_far)

    pub row_more : {v' next : ℕ} {now' : List ℕ} → v' ≡ w → Emitted to (if_set b (mark k m w j)) now now' next →
        Rows k m bits at buf v' (j + b) now' next
    row_more q s =
        rw q (record {
          few = omega (arith, r.few);
          space = r.space;
          done = r.done ++ if_set b (mark k m w j);
          is = row_is ∙ sym (append_assoc r.done _ _);
          so_far = emitted_after r.so_far s;
        })
