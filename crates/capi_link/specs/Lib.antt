pub mod Links
pub mod Back
