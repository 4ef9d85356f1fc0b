-- The step: its answers, its refusals, and the changes that each step is.
pub mod Stepped
pub mod StepIs
pub mod StepBy
pub mod Holders
pub mod Refused
pub mod View
pub mod One
