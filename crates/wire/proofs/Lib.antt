pub mod Both
pub mod Splice
pub mod NumberLaws
pub mod OrderLaws
pub mod PlaceLaws
pub mod RowLaws
pub mod ChunkLaws
