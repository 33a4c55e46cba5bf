pub mod DecimateState
pub mod ByChannel
pub mod InterpolateState
pub mod Laws
