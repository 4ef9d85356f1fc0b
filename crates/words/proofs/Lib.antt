pub mod Lines
pub mod Digits
pub mod Pairs
pub mod Tables
pub mod Starts
