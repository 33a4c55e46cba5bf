pub mod Generated
pub mod Reading
pub mod Taking
pub mod Opening
pub mod Samples
pub mod Packed
