pub mod Words
pub mod Rows
pub mod Pages
pub mod CardSums
