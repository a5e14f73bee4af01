pub mod MergeLaws
pub mod EntryLaws
pub mod StepLaws
pub mod HalfLaws
pub mod OrderLaws
pub mod FindLaws
pub mod EndLaws
pub mod RowLaws
