-- The changes that a step is made of, and what each does to a row.
pub mod Carry
pub mod Each
pub mod Registers
pub mod Stored
pub mod Changes
pub mod Made
pub mod Paths
