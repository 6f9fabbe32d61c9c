-- `compiler::put` meets its contract: where an instruction has room, the encoder lays it. Assumes nothing.
use Rattle.compiler.specs.Emitting.{emitted_one}
use Rattle.compiler.proofs.parts.put.Goals as goal

pub returns : goal.returns
returns c =
    emitted_one c.length.ensures c.requires c.encode.ensures.1
