pub mod WellFormed
pub mod Find
pub mod Over
pub mod Listing
pub mod Rows
pub mod Pairs
pub mod Ascends
pub mod Regions
