pub mod Example
pub mod PlaceLaws
pub mod RecordLaws
pub mod WalkLaws
