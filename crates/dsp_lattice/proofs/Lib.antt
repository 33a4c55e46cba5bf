pub mod Sections
pub mod Ladders
pub mod LatticeMaking
