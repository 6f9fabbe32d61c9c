-- `files::unpack` meets its contract: v rows are laid. Assumes nothing.
use borrow.Author.Rules.{rules}
use native.Mathlib.Omega.{arith}
use mathlib.Core.Path.{refl}
use Prim.Native.Nat.{ℕ, ◌+◌, ◌-◌, ◌*◌, ◌≤◌}
use lib.ListN.{length}
use Rattle.laws.specs.Lists.{row-end, length-upto, length_part}
use Rattle.laws.specs.Lay.{blocks-none, laid_part}
use Rattle.files.proofs.reading.unpack.Goals as goal
use Rattle.files.proofs.reading.unpack.Goals.{In-loop-v}

pub loop-v-init : goal.loop-v-init
loop-v-init c = (search rules, blocks-none _ _ _)

-- the room of the row
room : (c : In-loop-v) → let n = c.args.sizes.columns in c.loop-v.v * n + n ≤ length c.args.entries.now
room c = row-end c.args.sizes.columns _ c.loop-v-test.true refl c.requires

pub loop-v-preserved : goal.loop-v-preserved
loop-v-preserved c =
    let at = c.loop-v in
    let n : ℕ = c.args.sizes.columns in
    let room : at.v * n + n ≤ length c.args.entries.now = room (goal.at.loop-v-preserved c).In-loop-v in
    let long = length_part (at.v * n) (at.v * n + n - at.v * n) n at.entries (omega arith) (omega arith) in (
      search rules,
      laid_part _ _ _ _ _ _ _ _ _ (λ v. length-upto _ _) (omega arith) (omega arith) (omega arith)
          (rw (long, at.invariant.0) at c.unpack_row.ensures) at.invariant.1,
    )
