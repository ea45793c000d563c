pub mod Fitting
pub mod Rereading
pub mod Comparing
