-- Refusals: the number that is told of a list.
pub mod Smallest
pub mod Results
pub mod One
