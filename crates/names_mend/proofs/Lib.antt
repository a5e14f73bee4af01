pub mod ReadyLaws
pub mod SweepLaws
pub mod CallLaws
