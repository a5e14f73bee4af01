pub mod MarkLaws
pub mod PutLaws
pub mod KeepLaws
pub mod FitLaws
pub mod MarksKept
