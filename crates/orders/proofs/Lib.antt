pub mod Along
pub mod Answers
pub mod Children
pub mod Distinct
pub mod NextChild
pub mod Orders
pub mod Room
