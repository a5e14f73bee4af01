pub mod TableNumbers
