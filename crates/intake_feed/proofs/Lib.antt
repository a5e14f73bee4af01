pub mod LineLaws
pub mod PieceLaws
pub mod FedLaws
pub mod EndLaws
