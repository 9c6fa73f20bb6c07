pub mod Seen
pub mod Standard
pub mod View
