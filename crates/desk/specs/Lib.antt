pub mod Load
pub mod Lap
pub mod Host
pub mod Demand
pub mod Shuffle
pub mod Ahead
pub mod Naks
