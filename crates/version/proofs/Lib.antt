pub mod Words
pub mod Dotted
pub mod Tails
pub mod VersionLaws
