-- `files::unpack_row` meets its contract: c entries are laid. Assumes nothing.
use native.Mathlib.Omega.{arith}
use Rattle.laws.specs.Lay.{upto-none, laid_store, upto_filled}
use Rattle.files.proofs.reading.unpack_row.Goals as goal

pub loop-c-init : goal.loop-c-init
loop-c-init c = upto-none _ _ _

pub loop-c-preserved : goal.loop-c-preserved
loop-c-preserved c = laid_store 0 _ _ _ _ _ _ (omega arith) (omega arith) c.bit.ensures.0 c.loop-c.invariant

pub returns : goal.returns
returns c = upto_filled _ _ _ _ (omega arith) (omega arith) c.loop-c.invariant
