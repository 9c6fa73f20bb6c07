pub mod Taking
pub mod Walk
pub mod Moving
pub mod Outcomes
pub mod HeldChains
pub mod DeviceOrder
pub mod Calls
pub mod Still
