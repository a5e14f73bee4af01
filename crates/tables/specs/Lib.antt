pub mod Records
pub mod Bytes
pub mod Positions
pub mod Check
pub mod Answers
