pub mod History
pub mod Noted
