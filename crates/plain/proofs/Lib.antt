pub mod Inputs
pub mod Answering
pub mod Lines
