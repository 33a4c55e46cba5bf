pub mod WindowState
pub mod Delays
pub mod ByChannel
pub mod Laws
