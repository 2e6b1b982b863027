-- The notions that the laws of the steps are about.
pub mod Changes
pub mod Settled
pub mod Telling
pub mod Growth
pub mod Course
