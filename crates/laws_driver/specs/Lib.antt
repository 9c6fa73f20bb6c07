pub mod Honest
pub mod Staged
pub mod Resets
pub mod Told
pub mod Carried
