pub mod Rows
pub mod Finding
pub mod Counting
pub mod Changing
