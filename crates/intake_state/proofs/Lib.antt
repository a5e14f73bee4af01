pub mod NumberLaws
pub mod TestLaws
pub mod ReloadLaws
pub mod PassLaws
