-- `compiler::write` meets its contract: the header, then the parts, one after another. Assumes nothing.
use borrow.Author.Rules.{rules}
use native.Mathlib.Omega.{arith}
use Rattle.compiler.specs.EmittingProgram.{planned, program-written}
use Rattle.compiler.proofs.translating.write.Goals as goal

pub describe-requires : goal.describe-requires
describe-requires c =
    let asked = c.requires in
    (planned asked.0 asked.1 asked.2).header

pub begin-at-requires : goal.begin-at-requires
begin-at-requires c =
    let asked = c.requires in
    let plan = planned asked.0 asked.1 asked.2 in
    (record { fits = omega (arith, plan.parts) }, plan.fit.outputs)

pub columns-at-requires : goal.columns-at-requires
columns-at-requires c =
    let asked = c.requires in
    let plan = planned asked.0 asked.1 asked.2 in
    rw asked.3 (
      record { fits = omega (arith, plan.parts) },
      record { fit = plan.fit; few_rows = search rules; few_bytes = search rules },
      search rules,
      search rules,
    )

pub end-requires : goal.end-requires
end-requires c =
    let asked = c.requires in
    let plan = planned asked.0 asked.1 asked.2 in
    let written = rw asked.3 at c.columns-at.ensures in
    (record { fits = omega (arith, plan.parts, written.behind) }, plan.fit.outputs)

pub returns : goal.returns
returns c =
    let asked = c.requires in
    program-written _ asked.1 (planned asked.0 asked.1 asked.2) c.describe.ensures
    c.write_header.ensures.1 c.begin-at.ensures (rw asked.3 at c.columns-at.ensures)
    c.end.ensures
