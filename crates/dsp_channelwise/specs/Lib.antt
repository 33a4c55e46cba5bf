pub mod Adapting
pub mod Groups
pub mod Recursions
