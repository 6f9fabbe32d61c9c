-- Definitions first: what a reader compares with 01. Then the laws that the contracts and other crates rest on.
pub mod Matrix
pub mod Files
pub mod Matrices
pub mod Sizes
pub mod Live
pub mod Checks
pub mod Writing
pub mod RoundTrip
pub mod Foreign
