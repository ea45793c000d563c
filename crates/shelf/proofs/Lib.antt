pub mod AddLaws
pub mod ChangeLaws
pub mod ListLaws
