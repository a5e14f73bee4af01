pub mod Levels
pub mod Listed
