pub mod Traffic
pub mod Answers
pub mod Step
pub mod Outcomes
