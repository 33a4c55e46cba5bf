pub mod Making
pub mod Waves
pub mod Memoryless
