-- `files::Rows::fit` meets its contract: what is left from column c on, with h places open, comes to what the whole does. Assumes nothing.
use Prim.Native.Nat.{◌*◌, ◌≤◌}
use Rattle.fields.specs.Fields.{packed_bit}
use Rattle.files.specs.Live.{rows_fit, Open}
use Rattle.files.proofs.live.Rows.fit.Given as goal

abbrev pub invariant-loop-c : goal.invariant-loop-c
invariant-loop-c l =
    let s = l.self in
    (l.h ≤ l.rows) ×
    Open (λ v. packed_bit s.per s.bytes.now (v * s.stride)) l.rows l.columns (rows_fit s.bytes.now s.per s.stride l.rows l.columns) l.c l.h
