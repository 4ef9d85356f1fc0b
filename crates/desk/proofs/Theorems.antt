-- Demand 3, C-24, C-13 and C-16. The other theorems are in the crate `promises`, which cites these.
pub mod Demanded
pub mod Shuffling
pub mod Ahead
pub mod Naks
