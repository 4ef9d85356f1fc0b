-- Runs of steps of a network: the rows for the IDs, what is counted, and when the token is back.
pub mod Count
pub mod Steps
pub mod Hops
pub mod Shows
pub mod Follow
pub mod InRows
pub mod Ended
pub mod Between
pub mod History
pub mod Told
pub mod Back
pub mod LapCounts
pub mod Waits
pub mod StepCalls
