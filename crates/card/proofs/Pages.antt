-- Packets in a page: their sizes, reading out, storing, and what the line may count on.
pub mod Places
pub mod Sizes
pub mod Packets
pub mod Stored
pub mod Waiting
pub mod Refused
pub mod Same
pub mod Sent
pub mod ReadBack
