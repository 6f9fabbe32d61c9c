-- Definitions first: what a reader compares with 02, order 9. Then what holds of every sequence of calls from an opening on, and what the
-- code computes on the way.
pub mod Pool
pub mod Sequences
pub mod Sound
pub mod Amounts
pub mod Kept
pub mod Calls
pub mod Left
pub mod Theorems
pub mod Scan
pub mod Scanning
pub mod Ways
