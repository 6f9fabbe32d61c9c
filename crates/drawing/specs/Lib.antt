-- The definitions that the contracts cite, then what the proofs need of them.
pub mod Drawing
pub mod OwnWords
