pub mod Summing
pub mod Lines
pub mod Waiting
pub mod Worked
pub mod Noted
pub mod Cut
pub mod Printed
