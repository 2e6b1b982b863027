-- Laws of regions as longest runs of rows; Edits is of lists of any element type.
pub mod Edits
pub mod Runs
pub mod Joins
pub mod Search
pub mod Changes
pub mod Laid
pub mod Rows
pub mod Count
