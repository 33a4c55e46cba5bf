pub mod FrameRule
pub mod KeptRule
pub mod Lengths
