pub mod Hosting
pub mod Hosted
pub mod Taking
pub mod Quieting
pub mod Shutting
pub mod Steady
pub mod Resting
pub mod Tallying
pub mod Beginning
mod Exact
