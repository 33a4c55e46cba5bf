pub mod Sums
pub mod Extremes
pub mod Measures
