pub mod Stores
pub mod Puts
pub mod Found
pub mod Storing
