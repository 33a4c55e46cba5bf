pub mod Parts
pub mod Written
pub mod Placed
pub mod Interleaved
pub mod Operations
