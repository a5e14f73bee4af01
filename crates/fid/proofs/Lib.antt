pub mod SameLaws
pub mod FidLaws
