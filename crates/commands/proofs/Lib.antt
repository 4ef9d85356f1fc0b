pub mod Legal
pub mod Carried
