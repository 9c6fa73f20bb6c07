pub mod Righted
