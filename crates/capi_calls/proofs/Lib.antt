pub mod RunCalls
pub mod NamedRows
