pub mod Identified
pub mod Spelled
pub mod Texts
pub mod Calls
