pub mod Filling
pub mod Pieces
pub mod Numerals
pub mod HexDigits
pub mod Adding
pub mod Bounded
