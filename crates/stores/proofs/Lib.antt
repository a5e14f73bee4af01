pub mod StoreLaws
pub mod ObjectStores
pub mod ParentStores
pub mod RowStores
pub mod FileLaws
pub mod TableLaws
