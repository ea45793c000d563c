pub mod Table
pub mod Triples
pub mod Shelf
pub mod Lookup
pub mod Entries
pub mod Exported
pub mod Examples
