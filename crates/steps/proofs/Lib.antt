-- What each step of an operation does to nodes, rows, totals and published count, for every well-formed list of nodes. Regions are the runs of the rows.

-- one step
pub mod Put
pub mod Inserted
pub mod Opening
pub mod Growing
pub mod Shrunk
pub mod Closing
pub mod Quiet
-- what a model holds besides its nodes
pub mod Settling
pub mod Totals
-- whole operations
pub mod Replay
pub mod ClosingAll
pub mod Visits
pub mod Lengths
pub mod Results
pub mod SoundRegions
