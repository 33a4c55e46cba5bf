pub mod Channels
pub mod Check
pub mod Comparing
pub mod Evaluating
pub mod Steps
