pub mod OrderLaws
pub mod TripleBytes
