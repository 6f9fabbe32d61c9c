-- `programs::decode` meets its contract. Assumes nothing.
use Rattle.programs.specs.Reading.{decode_beyond, decode_part}
use Rattle.programs.proofs.instructions.decode.Goals as goal

pub returns-then-file-at : goal.returns-then-file-at
returns-then-file-at c = decode_beyond _ _ c.if-file-at.true

pub returns : goal.returns
returns c = decode_part _ _ _ c.front.ensures
