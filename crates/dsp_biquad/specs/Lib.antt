pub mod Sections
pub mod Making
pub mod Scaled
pub mod Waves
pub mod Laws
