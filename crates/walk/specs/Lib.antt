-- Definitions first: what a reader compares with 01. Then the laws that the contracts and other crates rest on.
pub mod Walk
pub mod Strings
pub mod Numbers
pub mod Steps
pub mod Ranks
pub mod Used
pub mod Turns
pub mod Ways
pub mod Packed
pub mod Ranges
pub mod Counts
pub mod Theorems
pub mod Intervals
