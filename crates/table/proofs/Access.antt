-- The calls to a row, and the fresh call.
pub mod Placed
pub mod Settled
pub mod Fresh
pub mod Handed
pub mod ShapeSettled
pub mod ShapeCalls
pub mod RamsKept
pub mod Beside
pub mod Writes
pub mod Calm
pub mod Others
pub mod Ahead
pub mod Counts
pub mod Refused
pub mod Rising
pub mod One
