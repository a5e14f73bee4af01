pub mod OwnerLaws
pub mod FillLaws
pub mod CloseLaws
