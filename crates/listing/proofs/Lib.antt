pub mod TellLaws
pub mod ListingLaws
pub mod InARow
