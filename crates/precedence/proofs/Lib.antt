pub mod Orders
pub mod VersionIdentifiers
pub mod Comparing
