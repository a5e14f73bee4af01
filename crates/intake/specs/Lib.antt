pub mod Lines
pub mod Says
pub mod Owners
pub mod Reading
pub mod Machine
pub mod Rows
pub mod Given
