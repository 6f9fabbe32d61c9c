-- The machine, in the order in which one rests on another.
pub mod Meaning
pub mod Runs
pub mod Calls
pub mod Fresh
pub mod Steps
pub mod Turns
pub mod Answers
pub mod Resuming
pub mod Numbers
pub mod Unseen
pub mod LaneLaw
