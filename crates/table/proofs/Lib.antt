pub mod Folds
pub mod Rows
pub mod Online
pub mod Shaped
pub mod Access
pub mod Shuffled
