-- Integers by their size, a lane's result, what combining comes to, and which lists are never refused.
pub mod Integers
pub mod Combination
pub mod Arithmetic
pub mod Combining
pub mod Reading
