pub mod Decided
pub mod Order
pub mod Sorted
pub mod Listings
pub mod Changes
pub mod Totals
pub mod Commute
