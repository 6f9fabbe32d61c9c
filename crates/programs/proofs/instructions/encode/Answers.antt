-- `programs::encode` meets its contract: the length is tried without a sum that could wrap. Assumes nothing.
use borrow.Author.Rules.{rules}
use Rattle.programs.specs.Reading.{encode_no_room, encode_room}
use native.Mathlib.Omega.{arith}
use Rattle.programs.proofs.instructions.encode.Goals as goal

pub returns-then-out-at : goal.returns-then-out-at
returns-then-out-at c = encode_no_room _ _ _ (omega arith)

pub returns-then-out-at-2 : goal.returns-then-out-at-2
returns-then-out-at-2 c = encode_no_room _ _ _ (omega arith)

pub returns : goal.returns
returns c = encode_room _ _ _ _ _ (search rules) (omega arith) c.store.ensures
