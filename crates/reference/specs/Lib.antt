pub mod Rule
pub mod Pest
pub mod Generated
pub mod Rust
pub mod Range
pub mod RangeSet
pub mod Seen
pub mod Utf8
