-- What is promised of every step: faults, the rows that neither send nor store, the holder, and whom an answer names.
pub mod Faults
pub mod Asides
pub mod Filling
pub mod Bystanding
pub mod Left
pub mod TheHolder
pub mod EveryRow
pub mod Still
pub mod Counts
pub mod Who
