pub mod Decimals
pub mod Refusals
pub mod Triples
pub mod Copying
