pub mod FrameRules
pub mod KeptRules
pub mod Placed
pub mod FewFrames
pub mod Paces
pub mod Counts
