pub mod BackLaws
pub mod SoundLaws
pub mod Cases
