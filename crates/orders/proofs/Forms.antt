-- The order form: its records, and their names.
pub mod Records
pub mod Found
pub mod Names
