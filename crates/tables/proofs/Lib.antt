pub mod EitherRow
-- The rows of a table, and the test of every row
pub mod AllLaws
pub mod RowReads
-- The check: each number case by case, 0 exactly where none applies
pub mod TestLaws
pub mod TwiceLaws
pub mod CheckLaws
pub mod PositionLaws
-- What is known of tables that pass
pub mod SoundLaws
pub mod Apart
-- Bytes to records and back
pub mod RenderLaws
pub mod WritableRows
pub mod ParseLaws
pub mod PassedWritable
pub mod WrittenPasses
