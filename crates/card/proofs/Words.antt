-- Bytes and lists: zeros, and a list laid over a part of another.
pub mod Zeros
pub mod Laid
