pub mod Link
pub mod Conditions
pub mod Answers
pub mod Walk
