pub mod ByChild
pub mod Ready
pub mod ReadyProps
