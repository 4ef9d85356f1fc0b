pub mod Calls
pub mod Requests
pub mod Turns
