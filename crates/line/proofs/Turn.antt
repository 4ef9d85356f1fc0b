-- TAKEN: the holder's turn and its packet.
pub mod Sends
pub mod Tries
pub mod Readied
pub mod Storing
pub mod Says
pub mod TakenBy
