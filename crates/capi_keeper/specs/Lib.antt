pub mod Keepers
pub mod OwnRow
