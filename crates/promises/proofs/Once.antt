-- No second outcome fits a contract: crate by crate.
pub mod Same
pub mod Sized
pub mod Bits
pub mod Told
pub mod Queues
pub mod Commands
pub mod Registers
pub mod Card
pub mod Table
pub mod Line
pub mod Orders
pub mod Desk
pub mod Words
