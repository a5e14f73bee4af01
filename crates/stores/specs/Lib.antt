pub mod Made
pub mod UsedRow
