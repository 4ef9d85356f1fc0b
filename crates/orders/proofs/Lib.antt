pub mod Forms
pub mod Checks
