-- The rows on line, found by their IDs.
pub mod Nodes
pub mod Highest
pub mod SameNodes
