-- 02, order 2: lists that `draw_signed` gives, of whatever programs, are combined and never refused; of compiled programs result j is that
-- of the four walks on strings j. Assumes nothing.
use Rattle.std.specs.Prelude.{ℕ, ◌≤◌, ◌<◌, ◌≡◌, false, List, ℤ, pos}
use Rattle.std.proofs.Common.{ap}
use Rattle.laws.specs.Words.{bit_at}
use Rattle.laws.specs.Lists.{upto, upto-eq, get_d_upto}
use Rattle.laws.specs.Outcome.{Outcome, gives, ◌>>=◌}
use Rattle.fields.specs.Strings.{strings_of}
use Rattle.programs.specs.Header.{numbers_of}
use Rattle.lanes.specs.Slicing.{lanes}
use Rattle.lanes.specs.Samples.{signed_code, signed_samples_of}
use Rattle.combining.specs.Combination.{entry, result_of, Samples}
use Rattle.combining.specs.Combining.{unfit, combine_of}
use Rattle.combining.specs.Reading.{read_samples, samples_combined}
use Rattle.compiler.specs.Translation.{compiled}
use Rattle.drawing.specs.Drawing.{draw_signed_of}
use Rattle.engine.specs.Batches.{drawn_at}
use Rattle.engine.specs.Draws.{draw-signed-walks}
use Rattle.engine.specs.Rows.{draw-reads}
use Rattle.engine.specs.Parts.{Table}

-- ---- lists drawn in one call
pub draw_samples : (program strings : List ℕ) (sign room : ℕ) (xs : List ℤ) → draw_signed_of program strings sign room ≡ gives xs →
    Samples xs
draw_samples program strings sign room xs e =
    let (outputs, read) = draw-reads program strings room (λ rows outputs. signed_samples_of rows outputs sign room) xs e in
    read_samples (numbers_of program).rows outputs sign room xs read

-- ---- batches
-- an accepted matrix, 64 sound strings, a sign word, and room for the samples
pub record Batch : Type 0 where
  pub table : Table
  pub strings : List ℕ
  pub sound : strings_of lanes table.matrix.columns strings ≡ gives tt
  pub sign : ℕ
  pub room : ℕ
  pub space : lanes ≤ room

-- the signed sample of the walk on string j
abbrev pub entry_at : Batch → ℕ → ℤ
entry_at B j = signed_code (bit_at B.sign j) (drawn_at B.table.matrix B.strings j)

-- a draw of its compiled program
abbrev pub draws : Batch → Outcome (List ℤ)
draws B = draw_signed_of (compiled B.table.matrix) B.strings B.sign B.room

draws-are : (B : Batch) → draws B ≡ gives (upto lanes (entry_at B))
draws-are B =
    draw-signed-walks B.table.file B.table.matrix B.table.accepted B.strings B.sound B.room B.space B.sign

list_entry : (B : Batch) (j : ℕ) → j < lanes → entry (upto lanes (entry_at B)) j ≡ entry_at B j
list_entry B j h = get_d_upto lanes (entry_at B) j (pos 0) h

list_samples : (B : Batch) → Samples (upto lanes (entry_at B))
list_samples B = draw_samples (compiled B.table.matrix) B.strings B.sign B.room (upto lanes (entry_at B)) (draws-are B)

-- result j is that of the four walks on strings j
pub combine_draws : (first second room : ℕ) (B1 B2 B3 B4 : Batch) → unfit first second ≡ false → lanes ≤ room →
    (do
      x1 ← draws B1
      x2 ← draws B2
      x3 ← draws B3
      x4 ← draws B4
      combine_of first second x1 x2 x3 x4 room) ≡
    gives (upto lanes (λ j. result_of first second (entry_at B1 j) (entry_at B2 j) (entry_at B3 j) (entry_at B4 j)))
combine_draws first second room B1 B2 B3 B4 f space =
    rw (
      draws-are B1,
      draws-are B2,
      draws-are B3,
      draws-are B4,
      samples_combined first second room _ _ _ _ (list_samples B1) (list_samples B2) (list_samples B3) (list_samples B4) f space,
    )
    (ap gives (upto-eq lanes _ _ (λ j h. rw (list_entry B1 j h, list_entry B2 j h, list_entry B3 j h, list_entry B4 j h))))
