-- The definitions: what a reader compares with 01, "Translation"
pub mod Translation
-- accepted: what is compiled passes the machine's check
pub mod Room
pub mod Ranges
pub mod Written
pub mod Size
pub mod Compiled
-- meaning: one lane of what is compiled computes the walk
pub mod Places
pub mod Effects
pub mod Columns
pub mod Computes
-- code: what the functions write
pub mod Emitting
pub mod EmittingColumns
pub mod EmittingProgram
