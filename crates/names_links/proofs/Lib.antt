pub mod RoomLaws
pub mod AppendLaws
pub mod KeepLaws
