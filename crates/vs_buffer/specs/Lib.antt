pub mod Fifo
pub mod MessageFields
pub mod Messages
