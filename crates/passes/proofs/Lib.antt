pub mod Turn
pub mod Passing
pub mod Folds
pub mod Due
pub mod Ends
pub mod Extending
