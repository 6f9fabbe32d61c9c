-- The definition that the contract cites, then what holds of the string, then what the proofs need.
pub mod Wanted
pub mod Theorems
pub mod Files
pub mod Adding
pub mod Back
pub mod Ways
