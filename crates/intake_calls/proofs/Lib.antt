pub mod KeptLaws
pub mod MarkLaws
pub mod LentLaws
pub mod WholeLaws
pub mod CallLaws
pub mod EveryCut
pub mod DropOut
