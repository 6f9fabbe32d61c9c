-- `next_bit` of `weights::Division` meets the contract of `Bits`: each return is one way of a step. Assumes nothing.
use Rattle.weights.specs.Division.{bit_taken, step_taken, step_left}
use Rattle.weights.proofs.dividing.DivisionBits.next_bit.Goals as goal

pub returns-then-self-twice : goal.returns-then-self-twice
returns-then-self-twice c = bit_taken _ _ _ _ (step_taken _ _ c.args.self.now.small.0 c.if-self-twice.true)

pub returns-else-self-twice : goal.returns-else-self-twice
returns-else-self-twice c = bit_taken _ _ _ _ (step_left _ _ c.args.self.now.small.0 c.if-self-twice.false)
