pub mod Unread
pub mod Opened
pub mod Components
