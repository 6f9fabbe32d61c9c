-- `combining::sound` meets its contract: tests of bits are those of the number. Assumes nothing.
use Rattle.combining.specs.Arithmetic.{sample-bits}
use Rattle.combining.proofs.sound.Goals as goal

pub returns : goal.returns
returns c = sample-bits _ c.ranges.x
