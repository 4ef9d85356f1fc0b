-- The lap call: its refusals and its loop.
pub mod LapNumber
pub mod LapDone
pub mod LapLeaves
pub mod Walking
pub mod Course
pub mod Going
pub mod LapLoop
pub mod Shuffled
pub mod One
