pub mod LayoutNumbers
