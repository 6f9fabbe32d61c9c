-- 02, order 4: each sample comes from as many numbers of 1 to 2^n, looked up in a table, as the compiled program of the imported matrix has
-- strings for it, and as many numbers miss as strings do. Assumes nothing.
use Rattle.std.specs.Prelude.{ℕ, ◌-◌, ◌^◌, ◌≤◌, ◌<◌, ◌≡◌, refl, Bool, true, false, List, ltb, length}
use Rattle.std.proofs.Math.Path.{sym, ap}
use Rattle.std.proofs.Common.{◌∙◌, arith, ltb-true, ltb-false, eq-eqb, ne_eqb}
use Rattle.laws.specs.Tests.{never}
use Rattle.laws.specs.Outcome.{gives}
use Rattle.files.specs.Matrix.{Matrix, total}
use Rattle.files.specs.Files.{file_length, matrix_file, matrix_of}
use Rattle.files.specs.RoundTrip.{read_accepted}
use Rattle.walk.specs.Walk.{Answer, sample, missed}
use Rattle.walk.specs.Strings.{Bits, strings, count, count-each}
use Rattle.cumulative.specs.Tables.{Table, most_bits, rows_of, last_of, difference, holds, imported, import_of}
use Rattle.cumulative.specs.Tables.{sums, exported, export_of, found, lookup_of}
use Rattle.cumulative.specs.Taken.{Cumulative}
use Rattle.cumulative.specs.Importing.{imported_row, imported_total, import_iff, import_is}
use Rattle.cumulative.specs.Exporting.{export_says}
use Rattle.cumulative.specs.Lookup.{holds_iff, found_iff, missed_iff, lookup_iff}
use Rattle.cumulative.specs.RoundTrip.{sums-rows, sums-difference, sums_cumulative, sums_imported}
use Rattle.cumulative.specs.Counts.{numbers_to, numbers-within, holds-count, above-count}
use Rattle.compiler.specs.Translation.{program, compiled, compile_of}
use Rattle.compiler.specs.Compiled.{compile_accepted, compile_fits}
use Rattle.engine.specs.Given.{Choice, Fair, given, says, says_miss}
use Rattle.engine.specs.Demand3.{demand_3_samples, demand_3_misses}

-- ---- a lookup, in the words in which demand 3 counts
said : (v : ℕ) (a : Answer) → a ≡ sample v → says v (gives a) ≡ true
unfolding says
said v a e = rw e (eq-eqb v v refl)

not_said : (v : ℕ) (a : Answer) → (a ≡ sample v → ⊥) → says v (gives a) ≡ false
unfolding says
not_said v (sample u) ne = ne_eqb u v (λ e. ne (ap sample e))
not_said v missed ne = refl

miss_said : (a : Answer) → a ≡ missed → says_miss (gives a) ≡ true
unfolding says_miss
miss_said a e = rw e

not-missed : (a : Answer) → (a ≡ missed → ⊥) → says_miss (gives a) ≡ false
unfolding says_miss
not-missed (sample u) ne = refl
not-missed missed ne = absurd (ne refl)

module _ (T : List ℕ) (n : ℕ) (ok : Cumulative T n) (r : ℕ) (z : 1 ≤ r) (top : r ≤ 2 ^ n) where
  looks : lookup_of T n r ≡ gives (found T r)
  looks = (lookup_iff T n r (found T r)).1 (ok, z, top, refl)

  says_holds : (v : ℕ) → v < rows_of T → says v (lookup_of T n r) ≡ holds T r v
  says_holds v h = ap (says v) looks ∙ go (holds T r v) refl
    where
      go : (b : Bool) → holds T r v ≡ b → says v (gives (found T r)) ≡ b
      go true e = said v (found T r) ((found_iff T n ok r z v).1 ((holds_iff T r v h).0 e))
      go false e = not_said v (found T r) (λ q. never (sym e ∙ (holds_iff T r v h).1 ((found_iff T n ok r z v).0 q)))

  misses-above : says_miss (lookup_of T n r) ≡ ltb (last_of T) r
  misses-above = ap says_miss looks ∙ go (ltb (last_of T) r) refl
    where
      go : (b : Bool) → ltb (last_of T) r ≡ b → says_miss (gives (found T r)) ≡ b
      go true e = miss_said (found T r) ((missed_iff T n ok r z).1 (ltb-true (last_of T) r e))
      go false e = not-missed (found T r) (λ q. omega (arith, (missed_iff T n ok r z).0 q, ltb-false (last_of T) r e))

-- ---- over the numbers 1 to 2^n
module _ (T : List ℕ) (n : ℕ) (ok : Cumulative T n) where
  -- sample v comes up as often as the difference of neighbours says
  pub lookup_count : (v : ℕ) → v < rows_of T → count (λ r. says v (lookup_of T n r)) (numbers_to (2 ^ n)) ≡ difference T v
  lookup_count v h =
      count-each (λ r. (1 ≤ r) × (r ≤ 2 ^ n)) (λ r. says v (lookup_of T n r)) (λ r. holds T r v) (numbers_to (2 ^ n))
      (numbers-within (2 ^ n))
      (λ r w. says_holds T n ok r w.0 w.1 v h) ∙
      holds-count T n ok v h

  -- and all that is above the last number misses
  pub lookup_misses : count (λ r. says_miss (lookup_of T n r)) (numbers_to (2 ^ n)) ≡ 2 ^ n - last_of T
  lookup_misses =
      count-each (λ r. (1 ≤ r) × (r ≤ 2 ^ n)) (λ r. says_miss (lookup_of T n r)) (λ r. ltb (last_of T) r) (numbers_to (2 ^ n))
      (numbers-within (2 ^ n)) (λ r w. misses-above T n ok r w.0 w.1) ∙
      above-count T n ok

-- ---- a table, the file that it imports as, the program that this compiles to, and lane, other lanes, earlier contents and budget chosen
-- anew for each string of n bits
module _ (T : List ℕ) (n room space : ℕ) (file code : List ℕ) (i : import_of T n room ≡ gives file) (c : compile_of file space ≡ gives code)
    (choose : List ℕ → Choice) (fair : (s : List ℕ) → Bits n s → Fair (program (imported T n)) s (choose s)) where
  ok : Cumulative T n
  ok = ((import_iff T n room file).0 i).0

  read : matrix_of file ≡ gives (imported T n)
  read = import_is T n room file i

  is : code ≡ compiled (imported T n)
  is = (compile_accepted file code space (imported T n) read c).0

  -- sample v comes from as many numbers as strings
  pub samples_alike : (v : ℕ) → v < rows_of T →
      count (λ r. says v (lookup_of T n r)) (numbers_to (2 ^ n)) ≡ count (λ s. says v (given code (choose s))) (strings n)
  unfolding imported
  samples_alike v h =
      rw is
      (lookup_count T n ok v h ∙
      sym (demand_3_samples file (imported T n) read choose fair v h ∙ imported_row T n ok v h))

  -- and as many numbers miss as strings
  pub misses_alike :
      count (λ r. says_miss (lookup_of T n r)) (numbers_to (2 ^ n)) ≡ count (λ s. says_miss (given code (choose s))) (strings n)
  unfolding imported
  misses_alike =
      rw is
      (lookup_misses T n ok ∙
      sym (demand_3_misses file (imported T n) read choose fair ∙ ap (λ (t : ℕ). 2 ^ n - t) (imported_total T n ok)))

-- ---- every table that lookup takes has such a file and such a program, with any room that they fit in
pub looked_compiles : (T : List ℕ) (n r : ℕ) (a : Answer) (room space : ℕ) → lookup_of T n r ≡ gives a → file_length (rows_of T) n ≤ room →
    length (compiled (imported T n)) ≤ space →
    (file : List ℕ) × (import_of T n room ≡ gives file) × (compile_of file space ≡ gives (compiled (imported T n)))
looked_compiles T n r a room space l h k =
    let ok = ((lookup_iff T n r a).0 l).0 in
    let i = (import_iff T n room (matrix_file (imported T n))).1 (ok, h, refl) in
    let read = import_is T n room (matrix_file (imported T n)) i in
    (matrix_file (imported T n), i, compile_fits (matrix_file (imported T n)) space (imported T n) read k)

-- ---- and of the table that a matrix file exports as, with the program that this file compiles to
module _ (file : List ℕ) (room space : ℕ) (t : Table) (code : List ℕ) (x : export_of file room ≡ gives t)
    (c : compile_of file space ≡ gives code) (M : Matrix) (e : matrix_of file ≡ gives M) (choose : List ℕ → Choice)
    (fair : (s : List ℕ) → Bits M.columns s → Fair (program M) s (choose s)) where
  of : (M.columns ≤ most_bits) × (t ≡ exported M)
  of = export_says file room t x M e

  takes : Cumulative (sums M) M.columns
  takes = sums_cumulative M (read_accepted file M e) of.0

  compiles : code ≡ compiled M
  compiles = (compile_accepted file code space M e c).0

  pub exported_alike : (v : ℕ) → v < M.rows →
      count (λ r. says v (lookup_of t.numbers t.columns r)) (numbers_to (2 ^ t.columns)) ≡
      count (λ s. says v (given code (choose s))) (strings t.columns)
  exported_alike v h =
      rw (of.1, compiles)
      (lookup_count (sums M) M.columns takes v (omega (arith, sums-rows M)) ∙
      (sums-difference M v h ∙ sym (demand_3_samples file M e choose fair v h)))

  pub exported_misses : count (λ r. says_miss (lookup_of t.numbers t.columns r)) (numbers_to (2 ^ t.columns)) ≡
      count (λ s. says_miss (given code (choose s))) (strings t.columns)
  exported_misses =
      let last : last_of (sums M) ≡ total M =
      sym (imported_total (sums M) M.columns takes) ∙ ap total (sums_imported M (read_accepted file M e) of.0) in
      rw (of.1, compiles)
      (lookup_misses (sums M) M.columns takes ∙
      (ap (λ (k : ℕ). 2 ^ M.columns - k) last ∙ sym (demand_3_misses file M e choose fair)))
