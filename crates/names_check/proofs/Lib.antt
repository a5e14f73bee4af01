pub mod TestLaws
pub mod LinkLaws
pub mod FindingLaws
pub mod CallLaws
pub mod OneFinding
