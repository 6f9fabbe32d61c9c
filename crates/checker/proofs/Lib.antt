-- Theorems of specs/ that rest on which check comes when, and on what it tries: a wrong check is to be seen at the functions, so no
-- definition of specs/ stands on them.
pub mod Admitting
pub mod GateRuns
pub mod Accepting
pub mod Encoding
pub mod Foreign
