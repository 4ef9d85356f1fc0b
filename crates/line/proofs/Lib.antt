pub mod Rooms
pub mod Change
pub mod Turn
pub mod Steps
pub mod Promised
pub mod Shuffled
