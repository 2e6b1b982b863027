-- What the demands are stated with.
pub mod Refusals
