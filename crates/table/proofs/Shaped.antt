-- What SHAPE says of a network, and what keeps it.
pub mod Shapes
pub mod Bounds
pub mod Kept
pub mod Became
pub mod Alike
pub mod KeptRows
