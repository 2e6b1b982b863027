-- Laws of the child lookup, as the search takes its steps.
pub mod Lookup
