pub mod Fits
pub mod Going
pub mod Changes
pub mod Apart
pub mod Waits
pub mod Leaves
pub mod Plain
