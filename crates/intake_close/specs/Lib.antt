pub mod OwnerLine
pub mod Closing
