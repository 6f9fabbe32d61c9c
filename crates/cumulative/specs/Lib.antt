-- Definitions first: what a reader compares with 02. Then the laws that the contracts and other crates rest on.
pub mod Tables
pub mod Taken
pub mod Importing
pub mod Exporting
pub mod Lookup
pub mod RoundTrip
pub mod Counts
