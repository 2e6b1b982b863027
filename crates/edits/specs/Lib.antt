-- What the contracts of this crate cite.
pub mod Openable
pub mod Closable
pub mod Growing
pub mod Visiting
