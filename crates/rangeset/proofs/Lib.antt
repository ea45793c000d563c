pub mod Measuring
pub mod Outcomes
