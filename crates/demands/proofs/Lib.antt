-- What the user asked for.
pub mod Answered
pub mod Preorder
pub mod Outcomes
pub mod Kept
pub mod Determined
