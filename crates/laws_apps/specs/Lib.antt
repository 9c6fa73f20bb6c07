pub mod Accounts
pub mod Traces
pub mod Runs
pub mod Calls
pub mod Rounds
pub mod Placed
pub mod Given
pub mod Ports
