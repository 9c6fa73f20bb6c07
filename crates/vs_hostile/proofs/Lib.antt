pub mod Seen
pub mod Determined
pub mod Hosting
pub mod Attacks
pub mod Stepping
