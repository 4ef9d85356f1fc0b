-- C-24: a step of a network whose rows stand in another order.
pub mod Changes
pub mod Turns
pub mod Steps
