pub mod Rolls
pub mod Pushed
