-- `programs::row_bits` meets its contract: each of its eight cases is a range in which so many bits are needed; all other rows, the last
-- two goals, are not 1 to 128. Assumes nothing.
use native.Mathlib.Omega.{arith}
use Rattle.programs.specs.Reading.{bits_ranged, bits_below, bits_above}
use Rattle.programs.proofs.rows.row_bits.Goals as goal

pub returns-in_default : goal.returns-in_default
returns-in_default c = bits_below _ (omega arith)

pub returns-in_default-2 : goal.returns-in_default-2
returns-in_default-2 c = bits_above _ (omega arith) (omega arith)

pub returns-in-1 : goal.returns-in-1
returns-in-1 c = bits_ranged _ _ (omega arith) (omega arith) (omega arith) (omega arith)

pub returns-in-2 : goal.returns-in-2
returns-in-2 c = bits_ranged _ _ (omega arith) (omega arith) (omega arith) (omega arith)

pub returns-in-3-to-4 : goal.returns-in-3-to-4
returns-in-3-to-4 c = bits_ranged _ _ (omega arith) (omega arith) (omega arith) (omega arith)

pub returns-in-5-to-8 : goal.returns-in-5-to-8
returns-in-5-to-8 c = bits_ranged _ _ (omega arith) (omega arith) (omega arith) (omega arith)

pub returns-in-9-to-16 : goal.returns-in-9-to-16
returns-in-9-to-16 c = bits_ranged _ _ (omega arith) (omega arith) (omega arith) (omega arith)

pub returns-in-17-to-32 : goal.returns-in-17-to-32
returns-in-17-to-32 c = bits_ranged _ _ (omega arith) (omega arith) (omega arith) (omega arith)

pub returns-in-33-to-64 : goal.returns-in-33-to-64
returns-in-33-to-64 c = bits_ranged _ _ (omega arith) (omega arith) (omega arith) (omega arith)

pub returns-in-65-to-128 : goal.returns-in-65-to-128
returns-in-65-to-128 c = bits_ranged _ _ (omega arith) (omega arith) (omega arith) (omega arith)
