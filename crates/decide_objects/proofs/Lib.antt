pub mod PlaceLaws
pub mod ObjectLaws
