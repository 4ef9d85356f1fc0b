-- Loading: the writes of a row, the network that an order gives, and its lap.
pub mod Unfit
pub mod LoadRow
pub mod LoadSteps
pub mod Loaded
pub mod Nodes
