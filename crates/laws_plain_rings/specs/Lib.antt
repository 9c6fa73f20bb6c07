pub mod Parts
pub mod Shown
pub mod Calls
pub mod Queue
pub mod Tie
pub mod Exposed
pub mod Seen
