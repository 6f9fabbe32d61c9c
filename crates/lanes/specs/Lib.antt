-- Strings to words, and words to samples: what a reader compares with 01 (Slicing, Samples), what holds lane by lane (Lanes), and the
-- transposition by which the code does both (Transposing, and Blocks for slicing).
pub mod Transposing
pub mod Slicing
pub mod Blocks
pub mod Samples
pub mod Lanes
