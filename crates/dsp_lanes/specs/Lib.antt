pub mod Turns
pub mod Regrouped
pub mod Narrow
pub mod Pairs
pub mod MatrixRows
pub mod HighSums
pub mod Rows
