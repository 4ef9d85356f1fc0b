pub mod Loads
pub mod ById
pub mod Runs
pub mod Lapping
pub mod Theorems
