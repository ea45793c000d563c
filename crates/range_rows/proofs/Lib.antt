pub mod Stages
pub mod Stands
pub mod Items
pub mod Hyphens
pub mod Ranges
