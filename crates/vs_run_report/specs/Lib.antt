pub mod Endings
pub mod Connections
pub mod Sums
pub mod Report
pub mod Right
pub mod Load
pub mod Examples
