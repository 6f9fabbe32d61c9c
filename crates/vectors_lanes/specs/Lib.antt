-- The patterns of signed numbers.
pub mod Patterns
