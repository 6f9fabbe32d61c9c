-- `weights::counted_weight` meets its contract: each return is one of the three cases. Assumes nothing.
use Rattle.weights.specs.Uses.{counted-plain, counted-zero, counted_twice}
use Rattle.weights.proofs.building.counted_weight.Goals as goal

pub returns-in-Plain : goal.returns-in-Plain
returns-in-Plain c = counted-plain _ _ _ c.in-Plain.is

pub returns-then-v-eq0 : goal.returns-then-v-eq0
returns-then-v-eq0 c = counted-zero _ _ _ c.if-v-eq0.true

pub returns-else-v-eq0 : goal.returns-else-v-eq0
returns-else-v-eq0 c = counted_twice _ _ _ c.in-Signed.is c.if-v-eq0.false
