pub mod GivenLaws
pub mod SlotNumbers
pub mod WriteLaws
pub mod RoundTrips
pub mod Impossible
pub mod Example
