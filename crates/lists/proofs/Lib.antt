pub mod Bools
pub mod Numbers
pub mod Filters
pub mod Edits
pub mod Pigeonhole
