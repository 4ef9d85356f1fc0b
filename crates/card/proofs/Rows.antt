-- A row's bytes: its registers in it, its RAM, and what a call or a message leaves of it.
pub mod Sizes
pub mod Bytes
pub mod Rams
pub mod WellFormed
pub mod Touched
pub mod Accesses
pub mod Moves
pub mod Ahead
pub mod Counts
pub mod Bystanders
