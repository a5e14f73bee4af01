pub mod EndLaws
pub mod EntryLaws
pub mod GlueLaws
pub mod TurnLaws
