pub mod Faults
pub mod InOut
pub mod Host
pub mod HostProgram
pub mod HostBytes
pub mod KeptBytes
pub mod MemIo
