pub mod Ready
pub mod Mending
pub mod Refusals
