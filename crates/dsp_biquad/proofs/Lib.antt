pub mod SectionSteps
pub mod Cascades
pub mod SectionNumbers
pub mod Scaled
pub mod Waves
mod Packed
