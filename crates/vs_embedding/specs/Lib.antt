pub mod Ring
pub mod Rounds
