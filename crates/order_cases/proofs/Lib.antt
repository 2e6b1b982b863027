pub mod ChainNodes
