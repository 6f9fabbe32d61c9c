-- `fields::field` meets its contract. Assumes nothing.
use native.Mathlib.Omega.{arith}
use Rattle.fields.specs.Fields.{field_of, field_beyond}
use Rattle.fields.proofs.records.field.Goals as goal

pub returns-then-bytes-at-clause-value : goal.returns-then-bytes-at-clause-value
returns-then-bytes-at-clause-value c = field_beyond _ _ c.if-bytes-at.true

pub returns-clause-value : goal.returns-clause-value
unfolding field_of
returns-clause-value c = omega arith
