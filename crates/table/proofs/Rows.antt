-- Where a row stands, the network with other rows, and a pass over the rows.
pub mod View
pub mod Starts
pub mod WithRows
pub mod Passes
pub mod Walks
pub mod Walk
pub mod Networks
pub mod Headers
