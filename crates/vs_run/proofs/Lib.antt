pub mod Endings
pub mod Causes
pub mod Statuses
pub mod Ran
