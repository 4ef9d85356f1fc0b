-- C-24: the rows of a network in another order.
pub mod Renaming
pub mod Searches
pub mod Rows
pub mod Shapes
pub mod Calls
