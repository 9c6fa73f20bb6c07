pub mod Told
pub mod Scripts
pub mod Journals
pub mod Sums
pub mod Examples
