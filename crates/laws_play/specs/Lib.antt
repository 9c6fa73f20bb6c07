pub mod Said
pub mod Recorded
pub mod Headline
pub mod Worked
