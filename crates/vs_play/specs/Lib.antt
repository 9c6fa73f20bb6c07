pub mod Lines
pub mod Answer
pub mod Ready
pub mod Told
pub mod Examples
