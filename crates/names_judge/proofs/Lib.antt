pub mod LevelLaws
pub mod DirectoryLaws
pub mod LookLaws
pub mod NoteLaws
pub mod JudgeLaws
pub mod CallLaws
