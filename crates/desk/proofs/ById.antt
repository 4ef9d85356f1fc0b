-- The token seen by node IDs alone: the ring that it goes round, and the walk over the IDs.
pub mod Ring
pub mod Scan
pub mod Roster
pub mod FirstLap
pub mod LaterLap
