pub mod Opened
pub mod Shapes
pub mod Gaps
pub mod Steps
