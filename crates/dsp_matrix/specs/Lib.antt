pub mod Groups
pub mod Matrices
pub mod Faults
pub mod Turning
pub mod Laws
