pub mod Lists
pub mod InPlace
