pub mod Numbers
pub mod Sound
