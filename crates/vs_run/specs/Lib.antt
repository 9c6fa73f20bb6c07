pub mod Ends
pub mod Played
pub mod Does
pub mod Runs
