-- Regions as longest runs of rows: what contracts and statements about them cite.
pub mod Edits
pub mod Regions
pub mod Search
pub mod Changes
pub mod Laid
