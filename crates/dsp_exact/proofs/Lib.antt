pub mod Exact
pub mod Pushed
pub mod Recurrences
pub mod Steps
