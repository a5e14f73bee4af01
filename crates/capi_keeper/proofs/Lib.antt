pub mod AskedLaws
pub mod KeeperNumbers
pub mod OwnRow
