pub mod Opened
pub mod Numbers
pub mod FirstBytes
pub mod Series
pub mod Literals
