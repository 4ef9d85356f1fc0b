-- What is told of an order (C-12): of its records one by one, and of all of them.
pub mod Tests
pub mod Found
pub mod Told
pub mod Fit
pub mod One
