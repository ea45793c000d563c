pub mod Rows
pub mod Texts
pub mod Calls
