-- `lanes::of_row` of `u8` meets its contract: the 8 lowest bits have the number, or the miss. Assumes nothing.
use Rattle.std.proofs.Common.{◌∙◌}
use Rattle.std.proofs.lemmas.Nat.{and_mask}
use Rattle.lanes.specs.Samples.{row_code}
use Rattle.lanes.proofs.sampling.U8Sample.of_row.Goals as goal

pub returns : goal.returns
returns c = λ bit g h. and_mask c.args.row 8 ∙ row_code bit g c.args.row h
