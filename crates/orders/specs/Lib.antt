pub mod Form
pub mod Check
