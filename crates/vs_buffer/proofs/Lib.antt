pub mod Marks
mod Pieces
