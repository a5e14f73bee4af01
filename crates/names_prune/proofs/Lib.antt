pub mod ByChildLaws
pub mod RecordLaws
pub mod FlagLaws
pub mod StoredLaws
pub mod PruneLaws
