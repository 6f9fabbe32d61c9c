-- `lister::list_file` meets its contract: what compile answers lies within its buffer. Assumes nothing.
use Rattle.std.proofs.Common.{arith, length-take}
use Rattle.lister.specs.Listing.{program-fits}
use Rattle.lister.proofs.list_file.Goals as goal

pub slice_bounds-program-end : goal.slice_bounds-program-end
slice_bounds-program-end g c = let answer = c.in_ok-length.ensures.0 in omega (arith, program-fits _ _ _ answer)

pub slice_bounds-list-end : goal.slice_bounds-list-end
slice_bounds-list-end g c = let answer = c.in_ok-length.ensures.0 in simp length-take (omega (arith, program-fits _ _ _ answer))
