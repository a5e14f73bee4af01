-- The searches from a row or a slot on
pub mod RowSearch
pub mod PlaceSearch
-- The rows of parsed tables, read off the bytes
pub mod ParsedRows
pub mod FoundRows
-- Slots and the keeper
pub mod SlotArea
pub mod SlotSearch
pub mod NamingLaws
pub mod CountLaws
pub mod KeeperLaws
pub mod ReserveLaws
