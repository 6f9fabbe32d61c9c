-- The definition that the contract cites, then what the proofs need of it, then what holds of the total.
pub mod Spent
pub mod Ways
pub mod Theorems
