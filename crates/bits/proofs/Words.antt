-- The words that definitions are written in: booleans, bits and bytes.
pub mod Bools
pub mod Masks
pub mod Table
