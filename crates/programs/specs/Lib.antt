-- The description of a program, in the order in which one rests on another.
pub mod Width
pub mod Limits
pub mod Records
pub mod Instructions
pub mod Header
pub mod Reading
pub mod Inverse
pub mod Foreign
pub mod Raised
