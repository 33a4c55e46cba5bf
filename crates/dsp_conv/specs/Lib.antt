pub mod Extent
pub mod ConvState
pub mod ByChannel
pub mod Making
pub mod Sums
pub mod CorrelateState
pub mod Laws
