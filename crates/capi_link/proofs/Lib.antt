pub mod LinkNumbers
pub mod NumbersBack
