pub mod DecimateLemmas
pub mod ChannelLemmas
pub mod InterpolateLemmas
pub mod InterpolateFilters
pub mod RateMaking
