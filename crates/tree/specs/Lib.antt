pub mod WellFormed
pub mod Paths
pub mod Pairs
