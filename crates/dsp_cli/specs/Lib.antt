pub mod Fault
pub mod Script
pub mod Run
pub mod Asking
pub mod Call
pub mod Perform
pub mod Causes
