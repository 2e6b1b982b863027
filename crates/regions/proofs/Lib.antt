-- What the functions' proofs need, over plain variables.
pub mod Holding
pub mod Merging
pub mod Steps
