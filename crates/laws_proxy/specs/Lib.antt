pub mod Honest
pub mod Order
pub mod Resets
pub mod Told
pub mod Account
