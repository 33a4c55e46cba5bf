pub mod BlockLemmas
pub mod DelayLemmas
pub mod ChannelLemmas
