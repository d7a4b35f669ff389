pub mod Piece
pub mod Decode
pub mod Literal
pub mod Plain
pub mod Helpers
