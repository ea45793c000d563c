pub mod Verdicts
pub mod Meeting
pub mod Admitting
