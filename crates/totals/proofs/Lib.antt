-- Laws of sums and totals.
pub mod Tests
pub mod Sums
pub mod Climb
pub mod Moves
