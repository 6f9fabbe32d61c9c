-- The checker, in the order in which one rests on another.
pub mod Checks
pub mod Standing
pub mod Operands
pub mod GateRuns
pub mod Checking
pub mod Accepting
pub mod Encoding
pub mod Foreign
