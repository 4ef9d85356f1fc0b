pub mod Folds
pub mod Rows
pub mod Network
pub mod Calls
pub mod Shuffle
pub mod Walk
