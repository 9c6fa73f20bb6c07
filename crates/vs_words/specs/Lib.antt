pub mod Options
pub mod Numbers
pub mod Command
pub mod Reading
pub mod Errors
