pub mod Opened
pub mod Modes
