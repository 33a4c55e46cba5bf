pub mod Places
pub mod Groups
mod Rounds
mod KeptLists
pub mod Units
pub mod Faults
pub mod Slices
pub mod LastPlace
mod Chains
mod Waves
pub mod FrameSamples
pub mod MemorylessUnits
