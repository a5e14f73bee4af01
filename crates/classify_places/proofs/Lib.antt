pub mod ClaimLaws
pub mod HeaderLaws
pub mod PlaceLaws
