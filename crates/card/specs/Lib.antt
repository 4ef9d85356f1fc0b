pub mod Row
pub mod Access
pub mod Packets
pub mod Moves
