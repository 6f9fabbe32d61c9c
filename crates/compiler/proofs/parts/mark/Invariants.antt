-- `compiler::mark` meets its contract: one instruction, then one for each set bit passed. Assumes nothing.
use mathlib.Core.Path.{◌≡◌}
use Rattle.std.specs.Prelude.{ℕ}
use Rattle.compiler.specs.Translation.{reg_y, spell}
use Rattle.compiler.specs.Emitting.{Parts}
use Rattle.compiler.proofs.parts.mark.Given as goal

abbrev pub invariant-loop-t : goal.invariant-loop-t
invariant-loop-t l =
    let k : ℕ = l.fn.layout.k in
    let m : ℕ = l.fn.layout.m in
    (l.y ≡ reg_y k m l.j) × Parts (spell k m l.v l.j) k l.initial.to l.initial.out l.t l.out l.to
