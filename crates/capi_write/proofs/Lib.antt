pub mod WriteNumbers
