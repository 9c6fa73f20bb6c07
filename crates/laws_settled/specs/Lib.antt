pub mod Shut
pub mod Exact
pub mod Hosts
pub mod Begun
pub mod Settled
