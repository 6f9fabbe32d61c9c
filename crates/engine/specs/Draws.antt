-- What `draw` gives where the program is what compile wrote for a matrix: sample j is that of the walk on string j. Assumes nothing.
use Rattle.std.specs.Prelude.{ℕ, ◌≤◌, ◌≡◌, List, length, replicate}
use Rattle.std.proofs.Common.{sym, ◌∙◌, arith}
use borrow.Author.Tests.{le-ltb}
use Rattle.std.proofs.lemmas.List.{length-replicate}
use Rattle.laws.specs.Words.{bit_at}
use Rattle.laws.specs.Lists.{upto}
use Rattle.laws.specs.Outcome.{Outcome, gives, ◌>>=◌}
use Rattle.files.specs.Matrix.{Matrix}
use Rattle.files.specs.Files.{matrix_of}
use Rattle.fields.specs.Strings.{strings_of}
use Rattle.lanes.specs.Slicing.{lanes, slice_gives}
use Rattle.lanes.specs.Samples.{code, signed_code}
use Rattle.compiler.specs.Translation.{program, compiled}
use Rattle.machine.specs.Runs.{start_of}
use Rattle.drawing.specs.Drawing.{drawn_under, drawn_with, draw_of, draw_signed_of}
use Rattle.engine.specs.Demand2.{compiled-is-accepted}
use Rattle.engine.specs.Batches.{sliced_words, drawn_at, batch_samples, batch-signed}
use Rattle.compiler.specs.Compiled.{inputs_are, rows_are}

-- words of the engine's own, as many as are asked for
pub own : (n : ℕ) → n ≤ length {A = ℕ} (replicate n 0)
own n = omega (arith, length-replicate {A = ℕ} n 0)

module _ (file : List ℕ) (M : Matrix) (e : matrix_of file ≡ gives M) (strings : List ℕ)
    (sound : strings_of lanes M.columns strings ≡ gives tt) (room : ℕ) (space : lanes ≤ room) where
  abbrev registers : List ℕ
  registers = replicate (program M).registers 0

  abbrev outputs : List ℕ
  outputs = replicate (program M).outputs 0

  -- a drawing is a start on the sliced strings, then the outputs read
  drawing_is : {A : Type 0} (read : ℕ → List ℕ → Outcome A) → drawn_with (compiled M) strings room read ≡
      (start_of (compiled M) (sliced_words M.columns strings) registers outputs (program M).count >>=
      (λ x. read M.rows x.state.outputs))
  unfolding drawn_under
  drawing_is read =
      rw (
        compiled-is-accepted file M e,
        inputs_are M,
        rows_are M,
        slice_gives M.columns strings M.columns (sym sound) (omega arith),
        le-ltb room lanes space,
      )

  -- sample j is the row that the walk on string j hits, or 255
  pub draw-walks : draw_of (compiled M) strings room ≡ gives (upto lanes (λ j. code (drawn_at M strings j)))
  draw-walks =
      drawing_is _ ∙
      batch_samples file M e strings registers outputs (program M).count room (own (program M).registers) (own (program M).outputs)
      (omega arith) space

  -- signed: negated where bit j of the sign word is set, and 32,767 for a miss
  pub draw-signed-walks : (sign : ℕ) →
      draw_signed_of (compiled M) strings sign room ≡ gives (upto lanes (λ j. signed_code (bit_at sign j) (drawn_at M strings j)))
  draw-signed-walks sign =
      drawing_is _ ∙
      batch-signed file M e strings registers outputs (program M).count room (own (program M).registers) (own (program M).outputs)
      (omega arith) space sign
