pub mod Rows
pub mod Bank
pub mod Making
