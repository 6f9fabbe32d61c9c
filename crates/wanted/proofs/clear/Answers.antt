-- `wanted::clear` meets its contract: bytes of 0 are packed bits of 0. Assumes nothing.
use Rattle.wanted.specs.Adding.{cleared}
use Rattle.wanted.proofs.clear.Goals as goal

pub returns : goal.returns
returns c = cleared _ _ _ _ c.width.ensures (rw c.width.ensures c.requires) (c.fill.ensures.after (λ y e. e))
