-- What private functions ask of their callers, and what they give.
pub mod Following
pub mod OpenedRow
pub mod Logging
pub mod Updating
pub mod Visiting
