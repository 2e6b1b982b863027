-- Laws that the proofs of the steps apply.
pub mod Chains
pub mod Opening
pub mod Freeing
pub mod ChildRows
pub mod Closing
pub mod InnerFirst
pub mod EndOf
pub mod Raising
pub mod Growing
pub mod InPlace
pub mod Visits
