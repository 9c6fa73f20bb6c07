mod Handshaking
mod Counting
mod Taking
mod Filling
mod Staging
mod Resetting
mod WholeTurn
mod Stepping
