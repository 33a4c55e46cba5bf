pub mod Unit
pub mod Line
pub mod Filter
pub mod Channels
pub mod Memoryless
