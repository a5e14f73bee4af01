pub mod Rows
pub mod Check
pub mod Findings
pub mod Visible
pub mod Sweeps
pub mod Mend
pub mod Calls
pub mod Promises
