-- What no single file format or machine owns, in the order in which one rests on another.
pub mod Tests
pub mod Sums
pub mod Smallest
pub mod Digits
pub mod Words
pub mod Lists
pub mod Lay
pub mod Outcome
pub mod Changes
pub mod Raised
pub mod Every
