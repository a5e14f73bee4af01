pub mod Piece
pub mod Feed
pub mod End
