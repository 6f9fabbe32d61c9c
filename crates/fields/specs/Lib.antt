-- Definitions first: what a reader compares with 01. Then the laws that the contracts and other crates rest on.
pub mod Refusal
pub mod Limits
pub mod Fields
pub mod Strings
pub mod Foreign
