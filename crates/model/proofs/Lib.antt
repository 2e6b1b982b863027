-- Laws of the definitions that need no other crate, and the worked cases, computed.
pub mod Arrays
pub mod Search
pub mod Everything
pub mod Cases
pub mod Corners
pub mod Zeros
pub mod UnlessZero
