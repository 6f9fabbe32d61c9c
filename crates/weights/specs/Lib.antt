-- Definitions first: what a reader compares with 01. Then the laws that the contracts and other crates rest on.
pub mod Weights
pub mod Division
pub mod Uses
pub mod Building
